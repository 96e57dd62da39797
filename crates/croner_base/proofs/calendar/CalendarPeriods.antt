-- After 400 years the calendar has the same dates again, 146,097 days later.
use Rattle.std.proofs.Common.{◌≡◌, ℕ, zero, suc, ◌+◌, ◌-◌, ◌*◌, Bool, true, false, cond, refl, sym, ap, ◌∙◌, subst, arith, ℤ, pos, negsuc, neg_ℤ, ◌+ℤ◌, ◌-ℤ◌, ◌*ℤ◌, ◌≤◌, ◌≤ℤ◌, FitsSigned, w32, w64}
use Rattle.std.proofs.lemmas.Bool.Decides.{nat_tests}
use Rattle.std.proofs.lemmas.Int.{by_lt_z}
use Rattle.std.specs.Int.{int_div_euclid, int_rem_euclid}
use Rattle.jiff_core.specs.Calendar.{is_leap_year, days_in_year, days_of_months, days_from_civil}
use Rattle.jiff_core.specs.Date.{epoch_day}
use Rattle.jiff_core.specs.declared.civil.date.Date.{Date}
use Rattle.jiff_core.proofs.MarchLemmas.{leap_day}
use Rattle.jiff_core.proofs.SignedLemmas.{signed_arith}
use Rattle.croner_base.specs.declared.time.civil.CivilDate.{CivilDate}
use Rattle.croner_base.specs.Calendar.{IsRealDate, day_number, days_since_zero, year_start}
use Rattle.croner_base.specs.Civil.{day_of_date}
use Rattle.croner_base.proofs.calendar.DayNumbers.{year_start-next, day_number-parts, day_number-lt_year, days_from_civil-day_number}
use Rattle.croner_base.proofs.calendar.JiffSeconds.{epoch_day-day_number}

-- ---- one period

pub leap_day_again : (y z : ℤ) → z ≡ y +ℤ pos 400 → leap_day z ≡ leap_day y
leap_day_again (pos n) (pos k) e = let h : k ≡ n + 400 = omega (arith, signed_arith, e) in grind (arith, nat_tests)
leap_day_again (pos n) (negsuc k) e = absurd (omega (arith, signed_arith, e))
leap_day_again (negsuc n) (pos k) e = let h : k + suc n ≡ 400 = omega (arith, signed_arith, e) in grind (arith, nat_tests)
leap_day_again (negsuc n) (negsuc k) e = let h : suc n ≡ suc k + 400 = omega (arith, signed_arith, e) in grind (arith, nat_tests)

same_test : (a b : Bool) → ◌≡◌ {A = ℕ} (cond a 1 0) (cond b 1 0) → a ≡ b
same_test true true e = refl
same_test false false e = refl
same_test true false e = absurd (omega (arith, e))
same_test false true e = absurd (omega (arith, e))

pub leap_by : (y z : ℤ) → z ≡ y +ℤ pos 400 → is_leap_year z ≡ is_leap_year y
leap_by y z e = same_test (is_leap_year z) (is_leap_year y) (leap_day_again y z e)

leap_again : (y : ℤ) → is_leap_year (y +ℤ pos 400) ≡ is_leap_year y
leap_again y = leap_by y (y +ℤ pos 400) refl

months_again : (y : ℤ) (n : ℕ) → days_of_months (y +ℤ pos 400) n ≡ days_of_months y n
unfolding days_of_months
months_again y zero = refl
months_again y (suc n) = rw (months_again y n, leap_again y) refl

length_again : (y : ℤ) → days_in_year (y +ℤ pos 400) ≡ days_in_year y
length_again y = rw (leap_again y) refl

-- the days from one 1 January to another 400 years later
abbrev IsPeriod : ℤ → Type 0
IsPeriod y = year_start (y +ℤ pos 400) ≡ year_start y +ℤ pos 146_097

start_next : (y z : ℤ) → z ≡ y +ℤ pos 1 → IsPeriod y → IsPeriod z
start_next y z e same =
    let far : z +ℤ pos 400 ≡ (y +ℤ pos 400) +ℤ pos 1 = omega (arith, signed_arith) in
    rw (far, e) (omega (arith, signed_arith, same, length_again y, year_start-next y, year_start-next (y +ℤ pos 400)))

start_before : (y z : ℤ) → z ≡ y +ℤ pos 1 → IsPeriod z → IsPeriod y
start_before y z e same =
    let far : z +ℤ pos 400 ≡ (y +ℤ pos 400) +ℤ pos 1 = omega (arith, signed_arith) in
    omega (arith, signed_arith, rw (far, e) at same, length_again y, year_start-next y, year_start-next (y +ℤ pos 400))

start_zero : IsPeriod (pos 0)
unfolding year_start days_since_zero
start_zero = refl

start_from : (n : ℕ) → IsPeriod (pos n)
start_from zero = start_zero
start_from (suc n) = start_next (pos n) (pos (suc n)) (omega (arith, signed_arith)) (start_from n)

start_until : (n : ℕ) → IsPeriod (neg_ℤ (pos n))
start_until zero = start_zero
start_until (suc n) = start_before (neg_ℤ (pos (suc n))) (neg_ℤ (pos n)) (omega (arith, signed_arith)) (start_until n)

start_again : (y : ℤ) → IsPeriod y
start_again (pos n) = start_from n
start_again (negsuc n) = start_until (suc n)

number_again : (y : ℤ) (m d : ℕ) → day_number (y +ℤ pos 400) m d ≡ day_number y m d +ℤ pos 146_097
number_again y m d =
    omega (arith, signed_arith, day_number-parts (y +ℤ pos 400) m d, day_number-parts y m d, start_again y, months_again y (m - 1))

-- ---- so many of them

module _ {T : Type 0} (f : ℤ → T) (again : (y : ℤ) → f (y +ℤ pos 400) ≡ f y) where
  later : (n : ℕ) (y z : ℤ) → z ≡ y +ℤ pos (400 * n) → f z ≡ f y
  later zero y z e = let same : z ≡ y = omega (arith, signed_arith, e) in ap f same
  later (suc n) y z e =
      let far : z ≡ (y +ℤ pos (400 * n)) +ℤ pos 400 = omega (arith, signed_arith, e) in
      ap f far ∙ again (y +ℤ pos (400 * n)) ∙ later n y (y +ℤ pos (400 * n)) refl

  periodic : (k y z : ℤ) → z ≡ y +ℤ pos 400 *ℤ k → f z ≡ f y
  periodic (pos n) y z e = later n y z (omega (arith, signed_arith, e))
  periodic (negsuc n) y z e = sym (later (suc n) z y (omega (arith, signed_arith, e)))

leap_periods : (k y z : ℤ) → z ≡ y +ℤ pos 400 *ℤ k → is_leap_year z ≡ is_leap_year y
leap_periods = periodic is_leap_year leap_again

-- what of a day number doesn't come from the mean length of a year
abbrev past_mean : ℕ → ℕ → ℤ → ℤ
past_mean m d y = pos 400 *ℤ day_number y m d -ℤ pos 146_097 *ℤ y

mean_again : (m d : ℕ) (y : ℤ) → past_mean m d (y +ℤ pos 400) ≡ past_mean m d y
mean_again m d y = omega (arith, signed_arith, number_again y m d)

-- so many periods later
pub day_number-periods : (k y z : ℤ) (m d : ℕ) → z ≡ y +ℤ pos 400 *ℤ k → day_number z m d ≡ day_number y m d +ℤ pos 146_097 *ℤ k
day_number-periods k y z m d e =
    let same : pos 400 *ℤ day_number z m d -ℤ pos 146_097 *ℤ z ≡ pos 400 *ℤ day_number y m d -ℤ pos 146_097 *ℤ y = periodic (past_mean m d) (mean_again m d) k y z e in
    omega (arith, signed_arith, same, e)

pub real_in_periods : (k y z : ℤ) (m d : ℕ) → z ≡ y +ℤ pos 400 *ℤ k → IsRealDate y m d → IsRealDate z m d
real_in_periods k y z m d e real =
    let same = leap_periods k y z e in
    (real.0, (real.1.0, rw same real.1.1))

-- a day number that is one of another year is none of this one
pub no_other_year : (y : ℤ) (m d : ℕ) (other : CivilDate) → IsRealDate y m d → day_of_date other ≡ day_number y m d → other.year ≡ y
no_other_year y m d other real same =
    by_lt_z other.year y
    (λ before. absurd (omega (arith, signed_arith, same, day_number-lt_year other.year other.month other.day y m d other.real real before)))
    (λ from.
    by_lt_z y other.year
    (λ behind. absurd (omega (arith, signed_arith, same, day_number-lt_year y m d other.year other.month other.day real other.real behind)))
    (λ up_to. omega (arith, signed_arith, from, up_to)))

-- ---- by a day in the first of them

-- the day number of a date, by that of the same date of the years 0 to 399
pub number_by_period : (y r q n : ℤ) (m d : ℕ) → n ≡ days_from_civil r m d → r ≡ int_rem_euclid y (pos 400) → q ≡ int_div_euclid y (pos 400) → 1 ≤ d → n +ℤ q *ℤ pos 146_097 ≡ day_number y m d
number_by_period y r q n m d e f g first =
    let low : neg_ℤ (pos 10_000) ≤ℤ r = omega (arith, signed_arith, f) in
    let far : y ≡ r +ℤ pos 400 *ℤ q = omega (arith, signed_arith, f, g) in
    omega (arith, signed_arith, e, days_from_civil-day_number r m d low first, day_number-periods q r y m d far)

-- a date by that of its place in a period
pub day_by_period : (d : Date) (day q y : ℤ) → epoch_day d ≡ int_rem_euclid day (pos 146_097) → q ≡ int_div_euclid day (pos 146_097) → y ≡ q *ℤ pos 400 +ℤ d.year → day_number y d.month d.day ≡ day
day_by_period d day q y e f g =
    let far : y ≡ d.year +ℤ pos 400 *ℤ q = omega (arith, signed_arith, g) in
    omega (arith, signed_arith, e, f, epoch_day-day_number d, day_number-periods q d.year y d.month d.day far)

pub real_by_period : (d : Date) (q y : ℤ) → y ≡ q *ℤ pos 400 +ℤ d.year → IsRealDate y d.month d.day
real_by_period d q y g =
    real_in_periods q d.year y d.month d.day (omega (arith, signed_arith, g)) (d.month_in, d.day_in)

-- the periods of the years of 32 bits, and of the days of 64
pub year_periods : (y q : ℤ) → FitsSigned w32 y → q ≡ int_div_euclid y (pos 400) → (neg_ℤ (pos 5_500_000) ≤ℤ q) × (q ≤ℤ pos 5_500_000)
year_periods y q fits e = (omega (arith, signed_arith, fits, e), omega (arith, signed_arith, fits, e))

pub day_periods : (day q : ℤ) → FitsSigned w64 day → q ≡ int_div_euclid day (pos 146_097) → (neg_ℤ (pos 64_000_000_000_000) ≤ℤ q) × (q ≤ℤ pos 64_000_000_000_000)
day_periods day q fits e = (omega (arith, signed_arith, fits, e), omega (arith, signed_arith, fits, e))

-- where the year doesn't fit, no date of a year that does has the day number
pub no_date : (d : Date) (day q y : ℤ) → epoch_day d ≡ int_rem_euclid day (pos 146_097) → q ≡ int_div_euclid day (pos 146_097) → y ≡ q *ℤ pos 400 +ℤ d.year → ¬ (FitsSigned w32 y)
    → (date : CivilDate) → FitsSigned w32 date.year → ¬ (day_of_date date ≡ day)
no_date d day q y e f g out date fits same =
    let year = no_other_year y d.month d.day date (real_by_period d q y g) (same ∙ sym (day_by_period d day q y e f g)) in
    out (subst (λ (z : ℤ). FitsSigned w32 z) year fits)
