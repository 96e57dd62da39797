-- The starts in a stretch of a clock: at its first second, and at the whole minutes after it.
-- Private contracts alone cite these definitions.
use Rattle.std.specs.Prelude.{◌≡◌, ◌⊎◌, Bool, true, if◌then◌else◌, ℤ, pos, ◌+ℤ◌, ◌*ℤ◌, ◌<ℤ◌, ◌≤ℤ◌}
use Rattle.std.specs.Int.{int_max, int_min}
use Rattle.croner_base.specs.declared.time.Direction.{Direction}
use Rattle.croner_base.specs.declared.time.Direction.TheVariants.{Forward, Backward}
use Rattle.croner_base.specs.Zone.{Zone}
use Rattle.croner_pattern.specs.Directions.{Reaches}
use Rattle.croner.specs.search.Limit.{IsWithin}
use Rattle.croner.specs.search.Runs.{NearestWhere}
use Rattle.crontab_runs.specs.Starts.{minute_of, CronJob, Starts}

-- the least minute that begins after the first second, and that a starless job hasn't seen
abbrev pub least_minute : Bool → ℤ → ℤ → ℤ → ℤ
least_minute starred begin offset before =
    if starred then minute_of (begin +ℤ offset) +ℤ pos 1 else int_max (minute_of (begin +ℤ offset) +ℤ pos 1) (minute_of before +ℤ pos 1)

-- the least minute that something can be started for from the first second on: the one that is shown there, or the one after the greatest
-- before
abbrev pub least_after_begin : ℤ → ℤ → ℤ → ℤ
least_after_begin begin offset before = int_min (minute_of (begin +ℤ offset)) (minute_of before +ℤ pos 1)

-- the minute from which one is sought, from a wall second on: forward the first that begins there or later, and no lesser one than the
-- least
abbrev pub minute_from : Direction → ℤ → ℤ → ℤ
minute_from Forward wall least = int_max (minute_of (wall +ℤ pos 59)) least
minute_from Backward wall least = minute_of wall

-- the whole minute m is shown at i, and cron starts a job for it
pub record IsMinuteStart (job : CronJob) (offset before i m : ℤ) : Type 0 where
  pub shown : i +ℤ offset ≡ m *ℤ pos 60
  pub named : job.names m
  pub fresh : (job.starred ≡ true) ⊎ (minute_of before <ℤ m)

-- an instant after the first second of a stretch, from one on
abbrev pub IsAfterBegin : Direction → ℤ → ℤ → ℤ → ℤ → Type 0
IsAfterBegin direction begin end from i = (begin <ℤ i) × (i <ℤ end) × Reaches direction from i

-- an instant of a stretch, from one on
abbrev pub IsIn : Direction → ℤ → ℤ → ℤ → ℤ → Type 0
IsIn direction begin end from i = (begin ≤ℤ i) × (i <ℤ end) × Reaches direction from i

-- of some instants none is a start before year 5000 forward, after year 1 backward
abbrev pub NoStart : Direction → CronJob → Zone → (ℤ → Type 0) → Type 0
NoStart direction job z among = (i : ℤ) → among i → IsWithin direction (z.reads i) → ¬ (Starts job z i)

-- the nearest start of some instants
abbrev pub IsNearestStart : Direction → CronJob → Zone → (ℤ → Type 0) → ℤ → Type 0
IsNearestStart direction job z among i = NearestWhere direction (λ j. among j × Starts job z j) i
