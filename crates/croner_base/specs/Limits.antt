-- The limits of calm zones and of what a search needs held. Each number of these rules stands here alone.
use Rattle.std.specs.Prelude.{ℕ, ◌+◌, ◌-◌, ◌*◌, ◌/◌, ℤ, pos, neg_ℤ, ◌-ℤ◌, ◌*ℤ◌}
use Rattle.croner_base.specs.Calendar.{day_seconds}

-- the most seconds that a calm zone's clock is moved forward at once
abbrev pub gap_limit : ℕ
gap_limit = 86_400

-- the most seconds that it is moved back at once
abbrev pub fold_limit : ℕ
fold_limit = 7_200

-- two changes of a calm zone lie more than so many seconds apart
abbrev pub apart_limit : ℕ
apart_limit = 172_800

-- the most changes of a calm zone that a search can meet
abbrev pub most_changes : ℕ
most_changes = 20_000

-- the most seconds that the clock skips at these changes together
abbrev pub most_gap_seconds : ℕ
most_gap_seconds = 20_000_000

-- a search needs what lies so many seconds around its start
abbrev pub near_limit : ℕ
near_limit = 172_800

-- the last year whose seconds a zoned date-time and a table's clock hold, and the first so many years before year 0
abbrev pub year_limit : ℕ
year_limit = 9_998

-- the years that a pattern can name, from this one
abbrev pub first_year : ℕ
first_year = 1

-- to this one
abbrev pub last_year : ℕ
last_year = 5_000

-- the wall second with which a year from 0 on begins: each year before it has 365 days, and each fourth one more, but of the
-- whole hundreds only each fourth; 1970-01-01 is 719,528 days after 0000-01-01
abbrev pub year_second : ℕ → ℤ
year_second y = (pos (365 * y + (y + 3) / 4 - (y + 99) / 100 + (y + 399) / 400) -ℤ pos 719_528) *ℤ pos day_seconds

-- the wall seconds of these years: 0001-01-01T00:00:00
abbrev pub first_searched : ℤ
first_searched = year_second first_year

-- to 5000-12-31T23:59:59
abbrev pub last_searched : ℤ
last_searched = year_second (last_year + 1) -ℤ pos 1

-- the wall seconds that a search needs wherever it starts, of a year more on either side: 0000-01-01T00:00:00
abbrev pub first_needed : ℤ
first_needed = year_second (first_year - 1)

-- to 5001-12-31T23:59:59
abbrev pub last_needed : ℤ
last_needed = year_second (last_year + 2) -ℤ pos 1

-- the wall seconds from which a search may start: -9997-01-01T00:00:00
abbrev pub first_start : ℤ
first_start = neg_ℤ (pos 377_642_044_800)

-- to 9997-12-31T23:59:59
abbrev pub last_start : ℤ
last_start = pos 253_339_228_799
