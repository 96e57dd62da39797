-- The first of some minutes that a job names.
-- Private contracts alone cite these definitions.
use Rattle.std.specs.Prelude.{◌≡◌, ℤ, pos, ◌*ℤ◌, ◌<ℤ◌, ◌≤ℤ◌}
use Rattle.crontab_runs.specs.Starts.{minute_of}

-- no minute after one and before another is named
abbrev pub NoneNamedBetween : (ℤ → Type 0) → ℤ → ℤ → Type 0
NoneNamedBetween names after before = (k : ℤ) → after <ℤ k → k <ℤ before → ¬ (names k)

-- the first that is begins with the wall second w
pub record IsFirstNamedBetween (names : ℤ → Type 0) (after before w : ℤ) : Type 0 where
  pub begins : w ≡ minute_of w *ℤ pos 60
  pub later : after <ℤ minute_of w
  pub ahead : minute_of w <ℤ before
  pub named : names (minute_of w)
  pub first : (j : ℤ) → after <ℤ j → names j → minute_of w ≤ℤ j
