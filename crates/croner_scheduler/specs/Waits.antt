-- How long a program sleeps between its calls. Source: this crate's documentation.
use Rattle.std.specs.Prelude.{ℕ, ℤ, ◌-ℤ◌, int_lt, if◌then◌else◌, min, unsigned_abs, Option, None, Some}

-- the seconds from now to the wake-up, but no more than so many; none where it isn't later than now; so many where there is no wake-up
abbrev pub pause_seconds : ℤ → Option ℤ → ℕ → ℕ
pause_seconds now (Some second) most = if int_lt now second then min (unsigned_abs (second -ℤ now)) most else 0
pause_seconds now None most = most
