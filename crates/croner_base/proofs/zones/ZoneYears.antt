-- The UTC year of an instant, as jiff's rules know it, lasts until its end.
use Rattle.std.proofs.Common.{◌≡◌, ℕ, suc, ◌+◌, refl, ap, ◌∙◌, arith, ℤ, pos, negsuc, ◌+ℤ◌, ◌-ℤ◌, ◌*ℤ◌, ◌≤ℤ◌, ◌<ℤ◌, unsigned_abs}
use Rattle.std.specs.Int.{int_div_euclid}
use Rattle.jiff_core.specs.Calendar.{IsYear, day_count, days_from_civil, days_in_year, days_of_months, days_of_years}
use Rattle.jiff_core.specs.Date.{epoch_day}
use Rattle.jiff_core.specs.DateTime.{civil_nanos}
use Rattle.jiff_core.specs.declared.civil.datetime.DateTime.{DateTime}
use Rattle.jiff_core.proofs.CalendarLemmas.{days_from_civil-day_count, day_count-day_of_year, day_of_year_bound}
use Rattle.jiff_core.proofs.DateLemmas.{civil}
use Rattle.jiff_core.proofs.SignedLemmas.{signed_arith}
use Rattle.jiff_tz.specs.Year.{year_of_day, year_of_nanos}
use Rattle.jiff_tz.proofs.YearLemmas.{years_within_is, year_of_nanos-civil}
use Rattle.croner_base.specs.Private.ZoneSteps.{IsYearEnd}

-- the days before a year, and those before the next
first_count : (y : ℤ) → day_count y 1 1 ≡ days_of_years (unsigned_abs (y +ℤ pos 10000))
unfolding day_count days_of_months
first_count y = omega arith

next_count : (y : ℤ) (k : ℕ) → pos k -ℤ pos 10000 ≡ y → days_of_years (suc k) ≡ days_of_years k + days_in_year y
unfolding days_of_years
next_count y k e = rw (← e) refl

-- a number that is not negative is its own size
pub nonneg_abs : (z : ℤ) → pos 0 ≤ℤ z → pos (unsigned_abs z) ≡ z
nonneg_abs (pos n) h = refl
nonneg_abs (negsuc n) h = absurd (omega (arith, signed_arith))

-- a day of a year
year_of_its_day : (y day : ℤ) → IsYear y → days_from_civil y 1 1 ≤ℤ day → day <ℤ (days_from_civil y 1 1 +ℤ pos (days_in_year y)) → year_of_day day ≡ y
year_of_its_day y day h low high =
    let k : ℕ = unsigned_abs (y +ℤ pos 10000) in
    let year = nonneg_abs (y +ℤ pos 10000) (omega (arith, signed_arith, h)) in
    let is : pos k -ℤ pos 10000 ≡ y = omega (arith, signed_arith, year) in
    let first = first_count y in
    let next = next_count y k is in
    let count = days_from_civil-day_count y 1 1 in
    let from_start = nonneg_abs (day +ℤ pos 4_371_953) (omega (arith, signed_arith, low, count)) in
    let within = years_within_is 20000 k (unsigned_abs (day +ℤ pos 4_371_953)) (omega (arith, signed_arith, h, year)) (omega (arith, signed_arith, low, first, count, from_start)) (omega (arith, signed_arith, high, first, next, count, from_start)) in
    ap (λ (j : ℕ). pos j -ℤ pos 10000) within ∙ is

-- the days of a date lie in its year
day_in_year : (dt : DateTime) → (days_from_civil dt.date.year 1 1 ≤ℤ epoch_day dt.date) × (epoch_day dt.date <ℤ (days_from_civil dt.date.year 1 1 +ℤ pos (days_in_year dt.date.year)))
day_in_year dt =
    let d = dt.date in
    let place = day_count-day_of_year d.year d.month d.day d.day_in.0 in
    let bound = day_of_year_bound d.year d.month d.day (civil d) in
    let first = days_from_civil-day_count d.year 1 1 in
    let own = days_from_civil-day_count d.year d.month d.day in (
      omega (arith, signed_arith, place, first, own, d.day_in.0),
      omega (arith, signed_arith, place, bound, first, own),
    )

-- the day of a date and time
day_of_nanos : (dt : DateTime) → int_div_euclid (civil_nanos dt) (pos 86_400_000_000_000) ≡ epoch_day dt.date
unfolding civil_nanos
day_of_nanos dt = omega (arith, signed_arith, dt.time.hour_in, dt.time.minute_in, dt.time.second_in, dt.time.subsec_in)

-- up to the end of its year the year is that of the instant
pub year_ends : (dt : DateTime) (n i : ℤ) → civil_nanos dt ≡ n → i ≡ (days_from_civil dt.date.year 1 1 +ℤ pos (days_in_year dt.date.year)) *ℤ pos 86_400 → IsYearEnd n i
year_ends dt n i e end =
    let within = day_in_year dt in
    let day : int_div_euclid n (pos 86_400_000_000_000) ≡ epoch_day dt.date = rw (← e) (day_of_nanos dt) in
    let own : dt.date.year ≡ year_of_nanos n = year_of_nanos-civil dt n e in
    record {
      later = omega (arith, signed_arith, day, within.1, end);
      same = λ m low high. year_of_its_day dt.date.year (int_div_euclid m (pos 86_400_000_000_000)) dt.date.year_in
          (omega (arith, signed_arith, day, within.0, low)) (omega (arith, signed_arith, end, high)) ∙ own;
    }
