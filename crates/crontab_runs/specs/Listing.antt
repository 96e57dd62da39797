-- The starts of a job after a time, or up to it and backward, the nearest first, and a listing of them up to a second. Source: this crate's
-- documentation.
use Rattle.std.specs.Prelude.{◌≡◌, ◌≤◌, ℕ, ℤ, pos, ◌-ℤ◌, List, [], ◌∷◌, ◌++◌, length, map, Option, Some, None}
use Rattle.std.specs.List.{All, Contains}
use Rattle.croner_base.specs.declared.time.Direction.{Direction}
use Rattle.croner_base.specs.declared.time.Direction.TheVariants.{Forward, Backward}
use Rattle.croner_base.specs.TableZone.{table_moment}
use Rattle.croner_base.specs.Zone.{Moment}
use Rattle.croner.specs.iterator.Listing.{BeginsWhere}
use Rattle.croner.specs.laws.Until.{ComesBy}
use Rattle.croner.specs.Recurring.{CountsFrom}
use Rattle.croner.specs.search.Limit.{InSpan}
use Rattle.crontab_runs.specs.declared.job.Start.{Start}
use Rattle.crontab_runs.specs.declared.listing.StartIterator.{StartIterator}
use Rattle.crontab_runs.specs.declared.listing.StartsEnd.{StartsEnd}
use Rattle.crontab_runs.specs.declared.listing.StartsEnd.TheVariants as ends
use Rattle.crontab_runs.specs.Searches.{IsStartOf, IsStartFound, NoStartLeft}
use Rattle.crontab_runs.specs.Starts.{CronJob, Starts}
use Rattle.crontab_runs.specs.Views.{cron_job_of}

-- ---- the iterator

-- from where a search goes on past a start: forward it leaves the start's second out, backward it counts the one before
abbrev pub onward_from : Direction → ℤ → ℤ
onward_from Forward i = i
onward_from Backward i = i -ℤ pos 1

-- the new iterator goes on from a second, with the same job on the same clock in the same direction
pub record GoesOnFrom (second : ℤ) (old new : StartIterator) : Type 0 where
  pub job : new.job.now ≡ old.job.now
  pub table : new.position.table.now ≡ old.position.table.now
  pub direction : new.direction ≡ old.direction
  pub at : new.position.second ≡ second

-- what a call of `next` does: it gives the nearest start and goes on past it; or none is left in the searched years, and it stays where it
-- is
abbrev pub Steps : StartIterator → Option Start → StartIterator → Type 0
Steps old None new = NoStartLeft old.direction (cron_job_of old.job.now) (table_moment old.position) × GoesOnFrom old.position.second old new
Steps old (Some s) new =
    IsStartFound old.direction (cron_job_of old.job.now) (table_moment old.position) s × GoesOnFrom (onward_from old.direction s.second) old new

-- ---- the listing

-- the seconds of starts
abbrev pub seconds_of : List Start → List ℤ
seconds_of starts = map (λ s. s.second) starts

-- cron starts the job at i, which comes after the time, or backward no later than it
abbrev pub IsLeftIn : Direction → CronJob → Moment → ℤ → Type 0
IsLeftIn direction job time = CountsFrom direction (Starts job time.zone) time.instant

-- forward
abbrev pub IsLeft : CronJob → Moment → ℤ → Type 0
IsLeft job time = IsLeftIn Forward job time

-- how the listing ended: with as many starts as were asked for at most; at the next start, which lies past the second; or with all that are
-- left in the searched years
abbrev pub Ends : Direction → CronJob → Moment → Option ℤ → ℕ → List Start → StartsEnd → Type 0
Ends direction job time until limit starts ends.Full = length starts ≡ limit
Ends direction job time until limit starts (ends.Past next) =
    IsStartOf job time.zone next × ¬ (ComesBy direction until next.second)
    × BeginsWhere direction (IsLeftIn direction job time) (seconds_of starts ++ next.second ∷ [])
Ends direction job time until limit starts ends.Over =
    (i : ℤ) → IsLeftIn direction job time i → InSpan direction time.zone.reads i → Contains (seconds_of starts) i

-- the starts from a time in a direction that come no later in it than a second, so many at most, and how their listing ended
pub record ListsStartsIn (direction : Direction) (job : CronJob) (time : Moment) (until : Option ℤ) (limit : ℕ) (starts : List Start) (end : StartsEnd)
    : Type 0 where
  -- they go in the direction, each is left, and none is left out up to the last
  pub begins : BeginsWhere direction (IsLeftIn direction job time) (seconds_of starts)
  pub each : All (IsStartOf job time.zone) starts
  pub by : All (λ s. ComesBy direction until s.second) starts
  pub most : length starts ≤ limit
  pub ended : Ends direction job time until limit starts end

-- forward: the starts after a time and no later than a second
abbrev pub ListsStarts : CronJob → Moment → Option ℤ → ℕ → List Start → StartsEnd → Type 0
ListsStarts job time until limit starts end = ListsStartsIn Forward job time until limit starts end
