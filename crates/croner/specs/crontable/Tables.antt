-- When a table of patterns runs: at each instant at which some pattern of it runs, with the places of all patterns that run
-- then. And what a search over a table answers: the two parts of its contract. The source is this crate's documentation.
use Rattle.std.specs.Prelude.{◌≡◌, ◌<◌, ℕ, ℤ, Bool, true, List, length, map, Some, slice_get}
use Rattle.std.specs.List.{All, AllPairs, Contains}
use Rattle.croner_base.specs.declared.errors.CronError.{CronError}
use Rattle.croner_base.specs.declared.errors.CronError.TheVariants.{TimeSearchLimitExceeded}
use Rattle.croner_base.specs.declared.time.Direction.{Direction}
use Rattle.croner_base.specs.Zone.{Zone, Moment, reading}
use Rattle.croner_pattern.specs.Meaning.{Meaning}
use Rattle.croner.specs.declared.crontable.CronTable.{CronTable}
use Rattle.croner.specs.search.Limit.{NoneInSpanWhere, IsPast}
use Rattle.croner.specs.search.PatternJob.{pattern_job, timetable_of}
use Rattle.croner.specs.search.Premises.{IsSearchable, StartsCalm, Shows}
use Rattle.croner.specs.search.Refusal.{IsRefusal, IsLimitOrMemory}
use Rattle.croner.specs.search.Runs.{Counts, NearestWhere}
use Rattle.croner.specs.Views.{job_of}

-- what contracts see of a table: its patterns, in order
abbrev pub patterns_of : CronTable → List Meaning
patterns_of table = map job_of table.jobs.items

-- the pattern at the place k, from 0, has a run at i that counts from s
pub record CountsAt (direction : Direction) (inclusive : Bool) (patterns : List Meaning) (z : Zone) (s : ℤ) (k : ℕ) (i : ℤ) : Type 0 where
  pub pattern : Meaning
  pub stands : slice_get patterns k ≡ Some pattern
  pub counts : Counts direction inclusive (pattern_job pattern z) s i

-- a table run that counts from s: an instant at which a run of the pattern at some place counts
abbrev pub TableCounts : Direction → Bool → List Meaning → Zone → ℤ → ℤ → Type 0
TableCounts direction inclusive patterns z s i = (k : ℕ) × CountsAt direction inclusive patterns z s k i

-- exactly the places that count, ascending, each once
pub record ArePlaces (counts : ℕ → Type 0) (places : List ℕ) : Type 0 where
  pub ordered : AllPairs (◌<◌) places
  pub count : All counts places
  pub complete : (k : ℕ) → counts k → Contains places k

-- what the clock shows at i is what a run of the pattern at the place k shows
pub record ShowsAt (patterns : List Meaning) (z : Zone) (i : ℤ) (k : ℕ) : Type 0 where
  pub pattern : Meaning
  pub stands : slice_get patterns k ≡ Some pattern
  pub shows : Shows (pattern_job pattern z) i

-- the start is past the years for each pattern
abbrev pub AllPast : Direction → Bool → List Meaning → Moment → Type 0
AllPast direction inclusive patterns start = All (λ m. IsPast direction inclusive (timetable_of m).scheduled (reading start)) patterns

-- what a search over a table finds
pub record IsTableFound (direction : Direction) (inclusive : Bool) (patterns : List Meaning) (start found : Moment) (named : List ℕ) : Type 0 where
  -- in a calm zone and from a whole second it is the nearest table run
  pub nearest : StartsCalm start → NearestWhere direction (TableCounts direction inclusive patterns start.zone start.instant) found.instant
  -- with exactly the places of the patterns that run then
  pub places : StartsCalm start → ArePlaces (λ k. CountsAt direction inclusive patterns start.zone start.instant k found.instant) named
  -- in every zone it is a whole second of the start's zone
  pub zone : found.zone ≡ start.zone
  pub whole : found.fraction ≡ 0
  -- with one place or more, ascending
  pub some : 0 < length named
  pub ordered : AllPairs (◌<◌) named
  -- which shows for each of its places what a run of that pattern shows
  pub shows : All (ShowsAt patterns start.zone found.instant) named
  -- and from a start past the years of each pattern nothing is found
  pub left : ¬ (AllPast direction inclusive patterns start)

-- why a search over a table is refused; it takes memory for the places, over whatever backend
pub record IsTableRefused (direction : Direction) (inclusive : Bool) (patterns : List Meaning) (start : Moment) (e : CronError) : Type 0 where
  -- in a calm zone and from a whole second the limit says that no run of any pattern is left in the span
  pub limit : StartsCalm start → e ≡ TimeSearchLimitExceeded → NoneInSpanWhere direction start.zone.reads (TableCounts direction inclusive patterns start.zone start.instant)
  -- where the backend also holds what a search needs, it is the limit or lack of memory
  pub promised : IsSearchable start → IsLimitOrMemory true e
  -- in every zone it is the limit, InvalidDate, InvalidTime, or lack of memory
  pub kind : IsRefusal true e
  -- and from a start past the years of each pattern it is the limit or lack of memory
  pub past : AllPast direction inclusive patterns start → IsLimitOrMemory true e
