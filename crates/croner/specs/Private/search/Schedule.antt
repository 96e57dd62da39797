-- What a schedule answers about wall seconds, before any zone.
-- Private contracts alone cite these definitions.
use Rattle.std.specs.Prelude.{ℤ, pos, ◌-ℤ◌, ◌≤ℤ◌, Bool, true, false}
use Rattle.croner_base.specs.declared.time.Direction.{Direction}
use Rattle.croner_base.specs.declared.time.Direction.TheVariants.{Forward, Backward}
use Rattle.croner_base.specs.Calendar.{day_seconds}
use Rattle.croner.specs.search.Runs.{Precedes, Reaches}
use Rattle.croner.specs.search.Limit.{IsWithin, year_2}

-- w is the nearest scheduled second from a wall second on, itself included
pub record NextScheduled (direction : Direction) (scheduled : ℤ → Type 0) (from w : ℤ) : Type 0 where
  pub on : Reaches direction from w
  pub is : scheduled w
  pub none : (v : ℤ) → Reaches direction from v → Precedes direction v w → ¬ (scheduled v)

-- the wall second 0001-12-31T00:00:00
abbrev pub last_of_year_1 : ℤ
last_of_year_1 = year_2 -ℤ pos day_seconds

-- a wall second that is never left out: before year 5000 forward, after year 1 backward, and backward for a fixed-time
-- job also the last day of year 1, from which a gap can carry a run into year 2
abbrev pub IsCovered : Direction → Bool → ℤ → Type 0
IsCovered Forward fixed_time w = IsWithin Forward w
IsCovered Backward false w = IsWithin Backward w
IsCovered Backward true w = last_of_year_1 ≤ℤ w

-- from a wall second on nothing that is covered is scheduled
abbrev pub NoneScheduled : Direction → Bool → (ℤ → Type 0) → ℤ → Type 0
NoneScheduled direction fixed_time scheduled from =
    (w : ℤ) → Reaches direction from w → IsCovered direction fixed_time w → ¬ (scheduled w)
