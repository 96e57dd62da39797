-- Day numbers, weekdays and wall seconds of dates that are known from elsewhere, and the years of the limits, all
-- computed from the definitions.
use Rattle.std.proofs.Common.{◌≡◌, refl, pos, neg_ℤ, ◌+◌, ◌-◌, ◌*◌, ◌+ℤ◌, ◌*ℤ◌, codes}
use Rattle.jiff_core.specs.Calendar.{days_of_months, day_of_year}
use Rattle.croner_base.specs.Calendar.{day_number, weekday_of_day, year_start, days_since_zero, days_until_zero, day_seconds}
use Rattle.croner_base.specs.CivilText.{date_text, datetime_text}
use Rattle.std.specs.Fmt.{digits}
use Rattle.croner_base.specs.Limits.{first_year, last_year, year_limit, first_searched, last_searched, first_needed, last_needed, first_start, last_start}

-- around the epoch
epoch : day_number (pos 1970) 1 1 ≡ pos 0
unfolding day_number year_start days_since_zero days_of_months
epoch = refl

day_before_epoch : day_number (pos 1969) 12 31 ≡ neg_ℤ (pos 1)
unfolding day_number year_start days_since_zero days_of_months
day_before_epoch = refl

-- leap days, that of year 0 too, and a century without one
leap_day : day_number (pos 2024) 2 29 ≡ pos 19_782
unfolding day_number year_start days_since_zero days_of_months
leap_day = refl

leap_day_of_a_century : day_number (pos 2000) 2 29 ≡ pos 11_016
unfolding day_number year_start days_since_zero days_of_months
leap_day_of_a_century = refl

leap_day_of_year_zero : day_number (pos 0) 2 29 ≡ neg_ℤ (pos 719_469)
unfolding day_number year_start days_since_zero days_of_months
leap_day_of_year_zero = refl

after_february_1900 : day_number (pos 1900) 3 1 ≡ neg_ℤ (pos 25_508)
unfolding day_number year_start days_since_zero days_of_months
after_february_1900 = refl

last_of_year_before_zero : day_number (neg_ℤ (pos 1)) 12 31 ≡ neg_ℤ (pos 719_529)
unfolding day_number year_start days_since_zero days_until_zero days_of_months
last_of_year_before_zero = refl

day_of_leap_year : day_of_year (pos 2024) 12 31 ≡ 366
unfolding days_of_months
day_of_leap_year = refl

-- Thursday 1970-01-01, Monday 2024-07-01, Saturday 2000-01-01
weekday_1970 : weekday_of_day (day_number (pos 1970) 1 1) ≡ 4
unfolding weekday_of_day day_number year_start days_since_zero days_of_months
weekday_1970 = refl

weekday_2024 : weekday_of_day (day_number (pos 2024) 7 1) ≡ 1
unfolding weekday_of_day day_number year_start days_since_zero days_of_months
weekday_2024 = refl

weekday_2000 : weekday_of_day (day_number (pos 2000) 1 1) ≡ 6
unfolding weekday_of_day day_number year_start days_since_zero days_of_months
weekday_2000 = refl

weekday_before_epoch : weekday_of_day (neg_ℤ (pos 1)) ≡ 3
unfolding weekday_of_day
weekday_before_epoch = refl

-- the years of the limits begin with their first seconds, and end a second before the next year's
pub first_needed_year : day_number (pos (first_year - 1)) 1 1 *ℤ pos day_seconds ≡ first_needed
unfolding day_number year_start days_since_zero days_of_months
first_needed_year = refl

pub first_searched_year : day_number (pos first_year) 1 1 *ℤ pos day_seconds ≡ first_searched
unfolding day_number year_start days_since_zero days_of_months
first_searched_year = refl

pub after_searched_years : day_number (pos (last_year + 1)) 1 1 *ℤ pos day_seconds ≡ last_searched +ℤ pos 1
unfolding day_number year_start days_since_zero days_of_months
after_searched_years = refl

pub after_needed_years : day_number (pos (last_year + 2)) 1 1 *ℤ pos day_seconds ≡ last_needed +ℤ pos 1
unfolding day_number year_start days_since_zero days_of_months
after_needed_years = refl

pub first_start_year : day_number (neg_ℤ (pos (year_limit - 1))) 1 1 *ℤ pos day_seconds ≡ first_start
unfolding day_number year_start days_since_zero days_until_zero days_of_months
first_start_year = refl

pub after_start_years : day_number (pos year_limit) 1 1 *ℤ pos day_seconds ≡ last_start +ℤ pos 1
unfolding day_number year_start days_since_zero days_of_months
after_start_years = refl

-- 23:59:59 of 31 December of the last year
last_second : day_number (pos last_year) 12 31 *ℤ pos day_seconds +ℤ pos (23 * 3600 + 59 * 60 + 59) ≡ last_searched
unfolding day_number year_start days_since_zero days_of_months
last_second = refl

-- texts
written : datetime_text (pos 2024) 7 1 9 30 0 ≡ codes "2024-07-01T09:30:00"
unfolding digits
written = refl

written_before_zero : date_text (neg_ℤ (pos 5)) 1 1 ≡ codes "-005-01-01"
unfolding digits
written_before_zero = refl

written_far : date_text (neg_ℤ (pos 12_345)) 12 31 ≡ codes "-12345-12-31"
unfolding digits
written_far = refl

written_late : date_text (pos 10_000) 12 31 ≡ codes "10000-12-31"
unfolding digits
written_late = refl
