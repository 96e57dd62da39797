-- Years that are one run.
use Rattle.std.specs.Prelude.{◌≡◌, ◌↔◌, ℕ, true}
use Rattle.std.specs.Int.{IsInRange}
use Rattle.croner_base.specs.Field.{Field}
use Rattle.croner_pattern.specs.Schedule.{is_plain}

-- the plain years are those from one to another
abbrev pub IsRun : Field → ℕ → ℕ → Type 0
IsRun years first last = (year : ℕ) → (is_plain years year ≡ true) ↔ IsInRange first last year

-- and these are some years; none where the first is the later one
abbrev pub IsOneRun : Field → Type 0
IsOneRun years = (first : ℕ) × ((last : ℕ) × IsRun years first last)
