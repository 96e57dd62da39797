-- Wall seconds and jiff's civil seconds.
use Rattle.std.proofs.Common.{◌%◌, true, false, ◌≡◌, ◌+◌, ◌-◌, refl, sym, ap, ◌∙◌, arith, ℤ, pos, neg_ℤ, ◌+ℤ◌, ◌-ℤ◌, ◌*ℤ◌, ◌≤ℤ◌}
use Rattle.std.proofs.lemmas.Int.{by_lt_z}
use Rattle.std.specs.Int.{int_div_euclid}
use Rattle.jiff_core.specs.Calendar.{IsYear, IsEpochDay, weekday_number}
use Rattle.jiff_core.specs.Date.{epoch_day}
use Rattle.jiff_core.specs.DateTime.{civil_seconds}
use Rattle.jiff_core.specs.declared.civil.date.Date.{Date}
use Rattle.jiff_core.specs.declared.civil.datetime.DateTime.{DateTime}
use Rattle.jiff_core.proofs.SignedLemmas.{signed_arith}
use Rattle.jiff_core.proofs.CalendarLemmas.{days_of_months-zero, days_of_months_all, days_of_months_more, days_in_year_bounds, weekday_number-parts, days_from_civil-day_count, day_count_bounds}
use Rattle.jiff_core.proofs.DateLemmas.{days_from_civil-min, days_from_civil-max}
use Rattle.croner_base.specs.declared.time.civil.CivilDateTime.{CivilDateTime}
use Rattle.croner_base.specs.declared.time.civil.CivilDate.{CivilDate}
use Rattle.croner_base.specs.Limits.{year_limit}
use Rattle.croner_base.specs.Calendar.{IsRealDate, day_number, weekday_of_day, day_seconds}
use Rattle.croner_base.specs.Civil.{wall_second, day_of_date, seconds_of_time, weekday_of_second}
use Rattle.croner_base.specs.CivilZone.{is_jiff_second}
use Rattle.croner_base.specs.Table.{first_instant, last_instant}
use Rattle.croner_base.proofs.tables.TableTests.{between_test, between_false}
use Rattle.croner_base.proofs.calendar.DayNumbers.{day_number-next_year, year_start-next, day_number-parts, days_from_civil-day_number, day_number-lt_year}

-- jiff's day number of a date is the date's day number
pub epoch_day-day_number : (d : Date) → epoch_day d ≡ day_number d.year d.month d.day
epoch_day-day_number d =
    days_from_civil-day_number d.year d.month d.day (omega (arith, signed_arith, d.year_in)) d.day_in.0

pub wall_second-parts : (c : CivilDateTime) → wall_second c ≡ day_of_date c.date *ℤ pos day_seconds +ℤ pos (seconds_of_time c.time)
unfolding wall_second
wall_second-parts c = refl

-- the same parts make the same second
pub record SameParts (c : CivilDateTime) (dt : DateTime) : Type 0 where
  pub year : c.date.year ≡ dt.date.year
  pub month : c.date.month ≡ dt.date.month
  pub day : c.date.day ≡ dt.date.day
  pub hour : c.time.hour ≡ dt.time.hour
  pub minute : c.time.minute ≡ dt.time.minute
  pub second : c.time.second ≡ dt.time.second

pub wall_second-civil_seconds : (c : CivilDateTime) (dt : DateTime) → SameParts c dt → wall_second c ≡ civil_seconds dt
unfolding civil_seconds
wall_second-civil_seconds c dt h =
    let e : day_of_date c.date ≡ epoch_day dt.date = rw (h.year, h.month, h.day) (sym (epoch_day-day_number dt.date)) in
    omega (arith, signed_arith, wall_second-parts c, e, h.hour, h.minute, h.second)

-- the date of a wall second
pub wall_second-day : (c : CivilDateTime) → int_div_euclid (wall_second c) (pos day_seconds) ≡ day_of_date c.date
wall_second-day c =
    omega (arith, signed_arith, wall_second-parts c, c.time.hour_in, c.time.minute_in, c.time.second_in)

-- a real date has a year of jiff's exactly where its day number is one of jiff's
pub year-day_number : (d : CivilDate) → IsYear d.year → IsEpochDay (day_of_date d)
year-day_number d h =
    omega (arith, signed_arith, days_from_civil-day_count d.year d.month d.day, day_count_bounds d.year d.month d.day (h, d.real.0, d.real.1), days_from_civil-day_number d.year d.month d.day (omega (arith, signed_arith)) d.real.1.0)

-- the first and the last year that jiff has: each second of year_limit plus any offset lies within them
abbrev first_jiff_year : ℤ
first_jiff_year = neg_ℤ (pos (year_limit + 1))

abbrev last_jiff_year : ℤ
last_jiff_year = pos (year_limit + 1)

first_day : day_number first_jiff_year 1 1 ≡ neg_ℤ (pos 4_371_587)
first_day = sym (days_from_civil-day_number first_jiff_year 1 1 (omega (arith, signed_arith)) (omega arith)) ∙ days_from_civil-min

last_day : day_number last_jiff_year 12 31 ≡ pos 2_932_896
last_day = sym (days_from_civil-day_number last_jiff_year 12 31 (omega (arith, signed_arith)) (omega arith)) ∙ days_from_civil-max

pub day_number-year : (d : CivilDate) → IsEpochDay (day_of_date d) → IsYear d.year
day_number-year d h =
    let first : IsRealDate first_jiff_year 1 1 = ((omega arith, omega arith), (omega arith, omega arith)) in
    let last : IsRealDate last_jiff_year 12 31 = ((omega arith, omega arith), (omega arith, omega arith)) in
    by_lt_z d.year first_jiff_year
    (λ low. absurd (omega (arith, signed_arith, first_day, day_number-lt_year d.year d.month d.day first_jiff_year 1 1 d.real first low)))
    (λ ge. by_lt_z last_jiff_year d.year
    (λ high. absurd (omega (arith, signed_arith, last_day, day_number-lt_year last_jiff_year 12 31 d.year d.month d.day last d.real high)))
    (λ le. (ge, le)))

-- the test of a second
pub is_jiff_second-true : (w : ℤ) → first_instant ≤ℤ w → w ≤ℤ last_instant → is_jiff_second w ≡ true
is_jiff_second-true w low high = between_test first_instant last_instant w low high

pub is_jiff_second-false : (w : ℤ) → (first_instant ≤ℤ w → w ≤ℤ last_instant → ⊥) → is_jiff_second w ≡ false
is_jiff_second-false w h = between_false first_instant last_instant w h

pub held_year : (c : CivilDateTime) → IsYear c.date.year → is_jiff_second (wall_second c) ≡ true
held_year c h =
    let b = year-day_number c.date h in
    is_jiff_second-true (wall_second c)
    (omega (arith, signed_arith, wall_second-parts c, c.time.hour_in, c.time.minute_in, c.time.second_in))
    (omega (arith, signed_arith, wall_second-parts c, c.time.hour_in, c.time.minute_in, c.time.second_in))

pub unheld_year : (c : CivilDateTime) → (IsYear c.date.year → ⊥) → is_jiff_second (wall_second c) ≡ false
unheld_year c h =
    is_jiff_second-false (wall_second c) (λ low high. h (day_number-year c.date (
      omega (arith, signed_arith, wall_second-parts c, c.time.hour_in, c.time.minute_in, c.time.second_in),
      omega (arith, signed_arith, wall_second-parts c, c.time.hour_in, c.time.minute_in, c.time.second_in),
    )))

-- the weekday of jiff's date, from Sunday, is that of its second
civil_seconds-day : (dt : DateTime) → int_div_euclid (civil_seconds dt) (pos day_seconds) ≡ epoch_day dt.date
unfolding civil_seconds
civil_seconds-day dt = omega (arith, signed_arith, dt.time.hour_in, dt.time.minute_in, dt.time.second_in)

from_sunday : (n : ℤ) → (weekday_number n + 1) % 7 ≡ weekday_of_day n
unfolding weekday_of_day
from_sunday n = omega (arith, signed_arith, weekday_number-parts n)

pub weekday-civil_seconds : (dt : DateTime) → (weekday_number (epoch_day dt.date) + 1) % 7 ≡ weekday_of_second (civil_seconds dt)
weekday-civil_seconds dt = from_sunday (epoch_day dt.date) ∙ ap weekday_of_day (sym (civil_seconds-day dt))

-- the days of the years -9998 to 9998, and their seconds
abbrev first_near_day : ℤ
first_near_day = neg_ℤ (pos 4_371_222)

abbrev last_near_day : ℤ
last_near_day = pos 2_932_531

abbrev pub first_near : ℤ
first_near = first_near_day *ℤ pos day_seconds

abbrev pub last_near : ℤ
last_near = last_near_day *ℤ pos day_seconds +ℤ pos (day_seconds - 1)

near_first : (pos 364 +ℤ neg_ℤ (pos 4_371_587)) ≤ℤ day_number first_jiff_year 12 31
near_first =
    omega (arith, signed_arith, first_day, day_number-parts first_jiff_year 1 1, day_number-parts first_jiff_year 12 31, days_of_months-zero first_jiff_year, days_of_months_all first_jiff_year, days_of_months_more first_jiff_year 12 (omega arith), days_in_year_bounds first_jiff_year)

near_last : (day_number last_jiff_year 1 1 +ℤ pos 364) ≤ℤ pos 2_932_896
near_last =
    omega (arith, signed_arith, last_day, day_number-parts last_jiff_year 1 1, day_number-parts last_jiff_year 12 31, days_of_months-zero last_jiff_year, days_of_months_all last_jiff_year, days_of_months_more last_jiff_year 12 (omega arith), days_in_year_bounds last_jiff_year)

pub near_day : (d : CivilDate) → neg_ℤ (pos year_limit) ≤ℤ d.year → d.year ≤ℤ pos year_limit → (first_near_day ≤ℤ day_of_date d) × (day_of_date d ≤ℤ last_near_day)
near_day d low high =
    let first : IsRealDate first_jiff_year 12 31 = ((omega arith, omega arith), (omega arith, omega arith)) in
    let last : IsRealDate last_jiff_year 1 1 = ((omega arith, omega arith), (omega arith, omega arith)) in (
      omega (arith, signed_arith, near_first, day_number-lt_year first_jiff_year 12 31 d.year d.month d.day first d.real (omega (arith, signed_arith))),
      omega (arith, signed_arith, near_last, day_number-lt_year d.year d.month d.day last_jiff_year 1 1 d.real last (omega (arith, signed_arith))),
    )

pub near_second : (c : CivilDateTime) → neg_ℤ (pos year_limit) ≤ℤ c.date.year → c.date.year ≤ℤ pos year_limit → (first_near ≤ℤ wall_second c) × (wall_second c ≤ℤ last_near)
near_second c low high =
    let b = near_day c.date low high in (
      omega (arith, signed_arith, b.0, wall_second-parts c, c.time.hour_in, c.time.minute_in, c.time.second_in),
      omega (arith, signed_arith, b.1, wall_second-parts c, c.time.hour_in, c.time.minute_in, c.time.second_in),
    )

-- a real date with such a day number has a year from -9998 to 9998
pub year_of_near : (d : CivilDate) → first_near_day ≤ℤ day_of_date d → day_of_date d ≤ℤ last_near_day → (neg_ℤ (pos year_limit) ≤ℤ d.year) × (d.year ≤ℤ pos year_limit)
year_of_near d low high =
    let first : IsRealDate (neg_ℤ (pos year_limit)) 1 1 = ((omega arith, omega arith), (omega arith, omega arith)) in
    let last : IsRealDate (pos year_limit) 12 31 = ((omega arith, omega arith), (omega arith, omega arith)) in
    let start : day_number (neg_ℤ (pos year_limit)) 1 1 ≡ first_near_day =
    omega (arith, signed_arith, first_day, day_number-parts first_jiff_year 1 1, day_number-parts (neg_ℤ (pos year_limit)) 1 1, days_of_months-zero first_jiff_year, days_of_months-zero (neg_ℤ (pos year_limit)), year_start-next first_jiff_year) in
    let end : day_number (pos year_limit) 12 31 ≡ last_near_day =
    omega (arith, signed_arith, last_day, day_number-parts last_jiff_year 12 31, day_number-parts (pos year_limit) 12 31, days_of_months_more last_jiff_year 12 (omega arith), days_of_months_all last_jiff_year, days_of_months_more (pos year_limit) 12 (omega arith), days_of_months_all (pos year_limit), year_start-next (pos year_limit)) in
    by_lt_z d.year (neg_ℤ (pos year_limit))
    (λ lt. absurd (omega (arith, signed_arith, start, day_number-lt_year d.year d.month d.day (neg_ℤ (pos year_limit)) 1 1 d.real first lt)))
    (λ ge. by_lt_z (pos year_limit) d.year
    (λ gt. absurd (omega (arith, signed_arith, end, day_number-lt_year (pos year_limit) 12 31 d.year d.month d.day last d.real gt)))
    (λ le. (ge, le)))

-- the days just past jiff's years
pub day_before : day_number (first_jiff_year -ℤ pos 1) 12 31 ≡ neg_ℤ (pos 4_371_588)
day_before = omega (arith, signed_arith, first_day, day_number-next_year (first_jiff_year -ℤ pos 1))

pub day_after : day_number (last_jiff_year +ℤ pos 1) 1 1 ≡ pos 2_932_897
day_after = omega (arith, signed_arith, last_day, day_number-next_year last_jiff_year)
