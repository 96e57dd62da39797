-- The weekday of the first of a month, for the years from 0 on in closed form.
use Rattle.std.proofs.Common.{◌≡◌, ℕ, zero, suc, ◌+◌, ◌-◌, ◌*◌, ◌/◌, ◌%◌, ◌<◌, ◌≤◌, refl, ap, arith, ℤ, pos}
use Rattle.std.specs.Int.{IsInRange}
use Rattle.std.proofs.lemmas.Bool.Decides.{nat_tests}
use Rattle.jiff_core.specs.Calendar.{is_leap_year, days_in_month, days_of_months, day_of_year}
use Rattle.jiff_core.proofs.SignedLemmas.{signed_arith}
use Rattle.jiff_core.proofs.CalendarLemmas.{days_in_month_bounds, days_in_year_bounds, days_of_months-zero}
use Rattle.jiff_core.proofs.MarchLemmas.{leap_day, days_in_year-leap_day}
use Rattle.croner_pattern.specs.Schedule.{first_weekday}
use Rattle.croner_base.specs.Calendar.{IsRealDate, days_since_zero, year_start, weekday_of_day}
use Rattle.croner_base.proofs.calendar.DayNumbers.{day_number-parts, day_of_year_bound}

-- how many leap years lie from year 0 to before the year, for a year that is not negative
abbrev leaps : ℕ → ℕ
leaps n = (n + 3) / 4 + (n + 399) / 400 - (n + 99) / 100

leaps-suc : (n : ℕ) → leaps (suc n) ≡ leaps n + leap_day (pos n)
leaps-suc n = grind (arith, nat_tests)

year_start-leaps : (n : ℕ) → year_start (pos n) ≡ pos (365 * n + leaps n)
unfolding year_start days_since_zero
year_start-leaps zero = refl
year_start-leaps (suc n) =
    omega (arith, signed_arith, year_start-leaps n, leaps-suc n, days_in_year-leap_day (pos n))

-- the weekday of the first of a month
pub weekday_place : (n m : ℕ) → 1 ≤ day_of_year (pos n) m 1 → first_weekday (pos n) m ≡ (n + leaps n + day_of_year (pos n) m 1 + 5) % 7
unfolding weekday_of_day
weekday_place n m h =
    omega (arith, signed_arith, day_number-parts (pos n) m 1, year_start-leaps n, year_start-leaps 1970)

pub first_bound : (y : ℤ) (m : ℕ) → IsInRange 1 12 m → day_of_year y m 1 ≤ 366
first_bound y m h =
    let real : IsRealDate y m 1 = (h, (omega arith, omega (arith, days_in_month_bounds y m))) in
    omega (arith, day_of_year_bound y m 1 real, days_in_year_bounds y)

-- years of one kind have months of the same lengths, at the same places
pub same-month : (y z : ℤ) (m : ℕ) → is_leap_year y ≡ is_leap_year z → days_in_month y m ≡ days_in_month z m
same-month y z m e = rw e refl

same-months : (y z : ℤ) (n : ℕ) → is_leap_year y ≡ is_leap_year z → days_of_months y n ≡ days_of_months z n
unfolding days_of_months
same-months y z zero e = refl
same-months y z (suc n) e = omega (arith, same-months y z n e, same-month y z (suc n) e)

pub same-place : (y z : ℤ) (m d : ℕ) → is_leap_year y ≡ is_leap_year z → day_of_year y m d ≡ day_of_year z m d
same-place y z m d e = ap (λ n. n + d) (same-months y z (m - 1) e)

-- the weekday of the first of a month, from that of the year
pub weekday-month : (y : ℤ) (m : ℕ) → first_weekday y m ≡ (first_weekday y 1 + (day_of_year y m 1 - 1) % 7) % 7
unfolding weekday_of_day
weekday-month y m = omega (arith, signed_arith, day_number-parts y m 1, day_number-parts y 1 1, days_of_months-zero y)

pub weekday_bound : (y : ℤ) (m : ℕ) → first_weekday y m < 7
unfolding weekday_of_day
weekday_bound y m = omega (arith, signed_arith)
