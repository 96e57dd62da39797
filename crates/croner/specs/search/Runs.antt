-- When a job runs in a zone, and which of its runs is the nearest one from a start. The source is this crate's documentation.
use Rattle.std.specs.Prelude.{◌≡◌, ℤ, pos, ◌-ℤ◌, ◌<ℤ◌, ◌⊎◌, Bool, true}
use Rattle.croner_base.specs.Zone.{Zone}
use Rattle.croner_base.specs.declared.time.Direction.{Direction}
use Rattle.croner_base.specs.declared.time.Direction.TheVariants.{Forward, Backward}
pub use Rattle.croner_pattern.specs.Directions.{Precedes, Reaches}

-- when a schedule asks for runs, in whatever zone: which wall seconds are scheduled, at which of them the date matches, and
-- whether it is a fixed-time job's
pub record Timetable : Type 1 where
  pub scheduled : ℤ → Type 0
  pub date_matches : ℤ → Type 0
  pub fixed_time : Bool

-- what a search looks for: the runs of a timetable in a zone
pub record Job : Type 1 where
  pub zone : Zone
  pub timetable : Timetable

-- the job of a timetable in a zone
abbrev pub job_in : Zone → Timetable → Job
job_in z timetable = record { zone = z; timetable = timetable }

-- a run by what the clock shows at i: for a fixed-time job no earlier instant shows the same
abbrev pub OwnRun : Job → ℤ → Type 0
OwnRun job i =
    job.timetable.scheduled (job.zone.reads i)
    × (job.timetable.fixed_time ≡ true → (j : ℤ) → j <ℤ i → ¬ (job.zone.reads j ≡ job.zone.reads i))

-- a fixed-time job's scheduled second lies in the gap that i ends, and the date that the clock shows at i matches
abbrev pub CarriedRun : Job → ℤ → Type 0
CarriedRun job i =
    (job.timetable.fixed_time ≡ true)
    × ((w : ℤ) × (job.zone.reads (i -ℤ pos 1) <ℤ w) × (w <ℤ job.zone.reads i) × job.timetable.scheduled w)
    × job.timetable.date_matches (job.zone.reads i)

-- the job runs at i
abbrev pub Run : Job → ℤ → Type 0
Run job i = OwnRun job i ⊎ CarriedRun job i

-- i lies ahead of s, or is it in an inclusive search
abbrev pub Ahead : Direction → Bool → ℤ → ℤ → Type 0
Ahead direction inclusive s i = Precedes direction s i ⊎ ((inclusive ≡ true) × (i ≡ s))

-- the start of an inclusive search counts itself: forward not where it is a carried run only
abbrev pub StartCounts : Direction → Job → ℤ → Type 0
StartCounts Forward job s = OwnRun job s
StartCounts Backward job s = Run job s

-- the run i counts from the start s
abbrev pub Counts : Direction → Bool → Job → ℤ → ℤ → Type 0
Counts direction inclusive job s i =
    (Precedes direction s i × Run job i) ⊎ ((inclusive ≡ true) × (i ≡ s) × StartCounts direction job s)

-- t counts, and nothing that counts comes before it
pub record NearestWhere (direction : Direction) (counted : ℤ → Type 0) (t : ℤ) : Type 0 where
  pub counts : counted t
  pub nearest : (j : ℤ) → counted j → Reaches direction t j

-- the nearest run of a job from s
abbrev pub Nearest : Direction → Bool → Job → ℤ → ℤ → Type 0
Nearest direction inclusive job s t = NearestWhere direction (Counts direction inclusive job s) t
