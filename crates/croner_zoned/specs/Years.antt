-- The years in which a zone's clock is followed. Source: this crate's documentation of `ZoneClock`.
use Rattle.std.specs.Prelude.{ℤ, pos, ◌-ℤ◌}
use Rattle.croner_base.specs.Limits.{year_second}

-- 0003-01-01T00:00:00 UTC
abbrev pub first_second : ℤ
first_second = year_second 3

-- 4998-12-31T23:59:59 UTC
abbrev pub last_second : ℤ
last_second = year_second 4999 -ℤ pos 1
