-- The seconds at which the jobs of this crate run, and the clocks on which they do. Source: this crate's documentation.
use Rattle.std.specs.Prelude.{ℤ, pos, ◌-ℤ◌, ◌≤ℤ◌}
use Rattle.croner.specs.Calm.{IsNear}
use Rattle.croner.specs.Limits.{year_second}
use Rattle.croner.specs.Zone.{Zone}

-- 0003-01-01T00:00:00 UTC
abbrev pub first_served : ℤ
first_served = year_second 3

-- 4998-12-31T23:59:59 UTC
abbrev pub last_served : ℤ
last_served = year_second 4_999 -ℤ pos 1

-- a second from the first to the last, both included
abbrev pub IsIn : ℤ → ℤ → ℤ → Type 0
IsIn first last i = (first ≤ℤ i) × (i ≤ℤ last)

-- a second of the years 3 to 4998 in UTC
abbrev pub IsServed : ℤ → Type 0
IsServed = IsIn first_served last_served

-- what the clock shows is never more than two days from UTC
abbrev pub IsNearUtc : Zone → Type 0
IsNearUtc z = (i : ℤ) → IsNear i (z.reads i)
