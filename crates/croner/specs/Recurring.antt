-- What recurs: the runs of something in each zone, the first one after a time and the last one up to it. Source: this crate's
-- documentation of `Recurring`.
use Rattle.std.specs.Prelude.{◌≡◌, Bool, ℤ, ◌<ℤ◌, ◌≤ℤ◌}
use Rattle.croner_base.specs.declared.errors.CronError.{CronError}
use Rattle.croner_base.specs.declared.errors.CronError.TheVariants.{TimeSearchLimitExceeded}
use Rattle.croner_base.specs.declared.time.Direction.{Direction}
use Rattle.croner_base.specs.declared.time.Direction.TheVariants.{Forward, Backward}
use Rattle.croner_base.specs.Zone.{Zone, Moment}
use Rattle.croner_pattern.specs.Meaning.{Meaning}
use Rattle.croner.specs.search.Limit.{NoneInSpanWhere}
use Rattle.croner.specs.search.PatternJob.{pattern_job}
use Rattle.croner.specs.search.Premises.{IsSearchable, StartsCalm}
use Rattle.croner.specs.search.Refusal.{IsRefusal, IsLimitOrMemory}
use Rattle.croner.specs.search.Runs.{Run, NearestWhere}

-- the runs of a pattern in each zone
abbrev pub runs_of : Meaning → Zone → ℤ → Type 0
runs_of m z = Run (pattern_job m z)

-- the runs that count from s: forward those after it, backward those up to it, itself included
abbrev pub CountsFrom : Direction → (ℤ → Type 0) → ℤ → ℤ → Type 0
CountsFrom Forward runs s i = (s <ℤ i) × runs i
CountsFrom Backward runs s i = (i ≤ℤ s) × runs i

-- the run that is found
pub record IsRunFound (direction : Direction) (runs : Zone → ℤ → Type 0) (start found : Moment) : Type 0 where
  -- in a calm zone and from a whole second it is the nearest that counts
  pub nearest : StartsCalm start → NearestWhere direction (CountsFrom direction (runs start.zone) start.instant) found.instant
  -- in every zone it is a whole second of the start's zone
  pub zone : found.zone ≡ start.zone
  pub whole : found.fraction ≡ 0

-- why none is found; the first mark says whether the backend can lack memory
pub record IsRunRefused (lack : Bool) (direction : Direction) (runs : Zone → ℤ → Type 0) (start : Moment) (e : CronError) : Type 0 where
  -- in a calm zone and from a whole second the limit says that no run that counts is left in the span
  pub limit : StartsCalm start → e ≡ TimeSearchLimitExceeded → NoneInSpanWhere direction start.zone.reads (CountsFrom direction (runs start.zone) start.instant)
  -- where the backend also holds what a search needs, it is the limit or lack of memory
  pub promised : IsSearchable start → IsLimitOrMemory lack e
  -- in every zone it is the limit, InvalidDate, InvalidTime, or lack of memory
  pub kind : IsRefusal lack e
