-- The seconds of an interval around a second.
use Rattle.std.specs.Prelude.{ℕ, ℤ, pos, ◌-ℤ◌, ◌<ℤ◌, ◌≤ℤ◌, Option, Some, None}
use Rattle.croner.specs.Recurring.{CountsFrom}
use Rattle.croner.specs.Zone.{Zone}
use Rattle.croner.specs.search.Runs.{NearestWhere}
use Rattle.croner_base.specs.declared.time.Direction.{Direction}
use Rattle.croner_jobs.specs.Runs.{IsNth}

-- s lies so many seconds after one of them, which are fewer than an interval has
pub record IsSince (first : ℤ) (seconds : ℕ) (s since : ℤ) : Type 0 where
  pub nth : IsNth first seconds (s -ℤ since)
  pub low : pos 0 ≤ℤ since
  pub high : since <ℤ pos seconds

-- the nearest of them from s, or none counts
abbrev pub IsMultiple : Direction → ℤ → ℕ → ℤ → Option ℤ → Type 0
IsMultiple direction first seconds s (Some c) = NearestWhere direction (CountsFrom direction (IsNth first seconds) s) c
IsMultiple direction first seconds s None = (i : ℤ) → ¬ (CountsFrom direction (IsNth first seconds) s i)

-- these seconds in every zone
abbrev pub multiples : ℤ → ℕ → Zone → ℤ → Type 0
multiples first seconds z i = IsNth first seconds i
