-- What a search from a moment answers: the two parts of its contract.
use Rattle.std.specs.Prelude.{◌≡◌, ◌≤ℤ◌, ℤ, pos, Bool}
use Rattle.croner_base.specs.declared.errors.CronError.{CronError}
use Rattle.croner_base.specs.declared.errors.CronError.TheVariants.{TimeSearchLimitExceeded}
use Rattle.croner_base.specs.declared.time.Direction.{Direction}
use Rattle.croner_base.specs.declared.time.civil.CivilDateTime.{CivilDateTime}
use Rattle.croner_base.specs.Civil.{wall_second}
use Rattle.croner_base.specs.Zone.{Moment, reading}
use Rattle.croner_pattern.specs.Meaning.{Meaning}
use Rattle.croner.specs.search.Limit.{NoneInSpan, IsPast}
use Rattle.croner.specs.search.PatternJob.{pattern_job}
use Rattle.croner.specs.search.Premises.{IsSearchable, StartsCalm, Shows}
use Rattle.croner.specs.search.Refusal.{IsRefusal, IsLimitOrMemory}
use Rattle.croner.specs.search.Runs.{Timetable, job_in, Run, Nearest}

-- what a search finds
pub record IsFound (direction : Direction) (inclusive : Bool) (timetable : Timetable) (start found : Moment) : Type 0 where
  -- in a calm zone and from a whole second it is the nearest run
  pub nearest : StartsCalm start → Nearest direction inclusive (job_in start.zone timetable) start.instant found.instant
  -- in every zone it is a whole second of the start's zone
  pub zone : found.zone ≡ start.zone
  pub whole : found.fraction ≡ 0
  -- which shows a scheduled second, for an interval job, and where each second is resolved to one instant
  pub shows : Shows (job_in start.zone timetable) found.instant
  -- and from a start past the years nothing is found
  pub left : ¬ (IsPast direction inclusive timetable.scheduled (reading start))

-- why a search is refused; the first mark says whether the backend can lack memory
pub record IsRefused (lack : Bool) (direction : Direction) (inclusive : Bool) (timetable : Timetable) (start : Moment) (e : CronError) : Type 0 where
  -- in a calm zone and from a whole second the limit says that no run is left in the span
  pub limit : StartsCalm start → e ≡ TimeSearchLimitExceeded → NoneInSpan direction inclusive (job_in start.zone timetable) start.instant
  -- where the backend also holds what a search needs, it is the limit or lack of memory
  pub promised : IsSearchable start → IsLimitOrMemory lack e
  -- in every zone it is the limit, InvalidDate, InvalidTime, or lack of memory
  pub kind : IsRefusal lack e
  -- and from a start past the years it is the limit
  pub past : IsPast direction inclusive timetable.scheduled (reading start) → e ≡ TimeSearchLimitExceeded

-- a wall second of the year, or of a later one
pub record IsFromYear (year w : ℤ) : Type 0 where
  pub shown : CivilDateTime
  pub shows : wall_second shown ≡ w
  pub from : year ≤ℤ shown.date.year

-- a run of year 3 or later, of a calm zone
pub record IsReturnable (m : Meaning) (start : Moment) : Type 0 where
  pub calm : StartsCalm start
  pub run : Run (pattern_job m start.zone) start.instant
  pub from : IsFromYear (pos 3) (reading start)
