-- How day numbers go on from a date to the next.
use mir.Val.{bool_byte}
use Rattle.std.proofs.Common.{add-one, add-zero, Bool, true, false, sym, nat_lt, get_or, [], ◌∷◌, ◌≡◌, ℕ, zero, suc, ◌+◌, ◌-◌, ◌<◌, ◌≤◌, refl, ◌∙◌, arith, ℤ, pos, negsuc, neg_ℤ, ◌+ℤ◌, ◌-ℤ◌, ◌<ℤ◌, ◌≤ℤ◌}
use Rattle.std.specs.Int.{IsInRange}
use Rattle.std.proofs.lemmas.Bool.Decides.{nat_tests}
use Rattle.jiff_core.specs.Calendar.{is_leap_year, days_in_year, days_in_month, days_of_months, day_of_year, day_count, days_from_civil}
use Rattle.jiff_core.proofs.SignedLemmas.{signed_arith}
use Rattle.jiff_core.proofs.CalendarLemmas.{days_of_months_table, days_of_months_all, days_of_months_more, days_of_months-zero, day_of_year_before, day_count-next_year, day_count-day_of_year}
use Rattle.croner_base.specs.Calendar.{IsRealDate, days_since_zero, days_until_zero, year_start, day_number}
use borrow.Author.Differences.{up, down}

-- a year begins after the days of the one before it
pub year_start-next : (y : ℤ) → year_start (y +ℤ pos 1) ≡ year_start y +ℤ pos (days_in_year y)
unfolding year_start days_since_zero days_until_zero
year_start-next (pos n) = rw add-one (omega (arith, signed_arith))
year_start-next (negsuc zero) = omega (arith, signed_arith)
year_start-next (negsuc (suc n)) =
    let e : negsuc (suc n) +ℤ pos 1 ≡ negsuc n = omega (arith, signed_arith) in
    rw e (omega (arith, signed_arith))

-- so many years later at least the days of this one have passed
year_start-after : (y : ℤ) (k : ℕ) → (year_start y +ℤ pos (days_in_year y)) ≤ℤ year_start (y +ℤ pos (k + 1))
year_start-after y zero = omega (arith, signed_arith, year_start-next y)
year_start-after y (suc k) =
    let e : y +ℤ pos (suc k + 1) ≡ (y +ℤ pos (k + 1)) +ℤ pos 1 = omega (arith, signed_arith) in
    rw e (omega (arith, signed_arith, year_start-after y k, year_start-next (y +ℤ pos (k + 1))))

pub year_start-later : (y later : ℤ) → y <ℤ later → (year_start y +ℤ pos (days_in_year y)) ≤ℤ year_start later
year_start-later y later h =
    let k = up later + down y - (down later + up y + 1) in
    let e : later ≡ y +ℤ pos (k + 1) = omega (arith, signed_arith) in
    rw e (year_start-after y k)

-- the parts of a day number
pub day_number-parts : (y : ℤ) (m d : ℕ) → day_number y m d ≡ year_start y -ℤ year_start (pos 1970) +ℤ pos (day_of_year y m d) -ℤ pos 1
unfolding day_number
day_number-parts y m d = refl

-- the day of a date in its year lies in the year
pub day_of_year_bound : (y : ℤ) (m d : ℕ) → IsRealDate y m d → (1 ≤ day_of_year y m d) × (day_of_year y m d ≤ days_in_year y)
day_of_year_bound y m d h =
    omega (arith, day_of_year_before y m d 12 h.0.0 h.1.1 h.0.1, days_of_months_all y, h.1.0)

-- 1970-01-01 is day 0
pub day_number-epoch : day_number (pos 1970) 1 1 ≡ pos 0
day_number-epoch = omega (arith, signed_arith, day_number-parts (pos 1970) 1 1, days_of_months-zero (pos 1970))

-- the next day of a month, the first of the next month, and 1 January
pub day_number-day : (y : ℤ) (m d k : ℕ) → day_number y m (d + k) ≡ day_number y m d +ℤ pos k
day_number-day y m d k = omega (arith, signed_arith, day_number-parts y m (d + k), day_number-parts y m d)

pub day_number-next_month : (y : ℤ) (m d : ℕ) → 1 ≤ m → d ≡ days_in_month y m → day_number y (m + 1) 1 ≡ day_number y m d +ℤ pos 1
day_number-next_month y m d h e =
    let back : m + 1 - 1 ≡ m = omega arith in
    omega (arith, signed_arith, rw back at (day_number-parts y (m + 1) 1), day_number-parts y m d, days_of_months_more y m h)

pub day_number-next_year : (y : ℤ) → day_number (y +ℤ pos 1) 1 1 ≡ day_number y 12 31 +ℤ pos 1
day_number-next_year y =
    omega (arith, signed_arith, day_number-parts (y +ℤ pos 1) 1 1, day_number-parts y 12 31, year_start-next y, days_of_months_more y 12 (omega arith), days_of_months_all y, days_of_months-zero (y +ℤ pos 1))

pub day_number-lt_year : (y : ℤ) (m d : ℕ) (y₂ : ℤ) (m₂ d₂ : ℕ) → IsRealDate y m d → IsRealDate y₂ m₂ d₂ → y <ℤ y₂ → day_number y m d <ℤ day_number y₂ m₂ d₂
day_number-lt_year y m d y₂ m₂ d₂ h h₂ lt =
    omega (arith, signed_arith, day_number-parts y m d, day_number-parts y₂ m₂ d₂, day_of_year_bound y m d h, day_of_year_bound y₂ m₂ d₂ h₂, year_start-later y y₂ lt)

pub day_number-lt_month : (y : ℤ) (m d m₂ d₂ : ℕ) → IsRealDate y m d → 1 ≤ d₂ → m < m₂ → day_number y m d <ℤ day_number y m₂ d₂
day_number-lt_month y m d m₂ d₂ h first lt =
    omega (arith, signed_arith, day_number-parts y m d, day_number-parts y m₂ d₂, day_of_year_before y m d (m₂ - 1) h.0.0 h.1.1 (omega arith))

-- from so many years before year 0 on the day number is jiff's
abbrev followed_years : ℕ
followed_years = 10_000

bridge_from : (n : ℕ) → pos (day_count (pos n -ℤ pos followed_years) 1 1) ≡ year_start (pos n -ℤ pos followed_years) -ℤ year_start (neg_ℤ (pos followed_years)) +ℤ pos (day_count (neg_ℤ (pos followed_years)) 1 1)
bridge_from zero = omega (arith, signed_arith)
bridge_from (suc n) =
    let e : pos (suc n) -ℤ pos followed_years ≡ (pos n -ℤ pos followed_years) +ℤ pos 1 = omega (arith, signed_arith) in
    let low : neg_ℤ (pos followed_years) ≤ℤ (pos n -ℤ pos followed_years) = omega (arith, signed_arith) in
    rw e (omega (arith, signed_arith, bridge_from n, year_start-next (pos n -ℤ pos followed_years), day_count-next_year (pos n -ℤ pos followed_years) (pos n -ℤ pos followed_years +ℤ pos 1) low refl))

bridge_year : (y : ℤ) → neg_ℤ (pos followed_years) ≤ℤ y → pos (day_count y 1 1) ≡ year_start y -ℤ year_start (neg_ℤ (pos followed_years)) +ℤ pos (day_count (neg_ℤ (pos followed_years)) 1 1)
bridge_year y h =
    let n = up y + followed_years - down y in
    let e : y ≡ pos n -ℤ pos followed_years = omega (arith, signed_arith) in
    rw e (bridge_from n)

pub days_from_civil-day_number : (y : ℤ) (m d : ℕ) → neg_ℤ (pos followed_years) ≤ℤ y → 1 ≤ d → days_from_civil y m d ≡ day_number y m d
unfolding days_from_civil
days_from_civil-day_number y m d h first =
    let a = bridge_year y h in
    let b = bridge_year (pos 1970) (omega (arith, signed_arith)) in
    omega (arith, signed_arith, day_count-day_of_year y m d first, day_number-parts y m d, a, b)

-- the table of whole months, and the leap day that falls before the date
pub months_before : (y : ℤ) (m : ℕ) → IsInRange 1 12 m → (2 < m → is_leap_year y ≡ true → days_of_months y (m - 1) ≡ get_or (0 ∷ 31 ∷ 59 ∷ 90 ∷ 120 ∷ 151 ∷ 181 ∷ 212 ∷ 243 ∷ 273 ∷ 304 ∷ 334 ∷ []) (m - 1) 0 + 1) × (2 < m → is_leap_year y ≡ false → days_of_months y (m - 1) ≡ get_or (0 ∷ 31 ∷ 59 ∷ 90 ∷ 120 ∷ 151 ∷ 181 ∷ 212 ∷ 243 ∷ 273 ∷ 304 ∷ 334 ∷ []) (m - 1) 0) × (m ≤ 2 → days_of_months y (m - 1) ≡ get_or (0 ∷ 31 ∷ 59 ∷ 90 ∷ 120 ∷ 151 ∷ 181 ∷ 212 ∷ 243 ∷ 273 ∷ 304 ∷ 334 ∷ []) (m - 1) 0)
months_before y m h =
    let t = days_of_months_table y (m - 1) (omega arith) in (
      (λ late leap. let b : nat_lt 1 (m - 1) ≡ true = grind (arith, nat_tests) in rw (b, leap) at t),
      (λ late plain. let b : nat_lt 1 (m - 1) ≡ true = grind (arith, nat_tests) in (rw (b, plain) at t) ∙ add-zero _),
      (λ early. let b : nat_lt 1 (m - 1) ≡ false = grind (arith, nat_tests) in (rw b at t) ∙ add-zero _),
    )

-- the place of a date is the days of that table, the leap day once it is past, and its own day
pub place_late : (y : ℤ) (m d leap_day : ℕ) (b : Bool) → IsInRange 1 12 m → 2 < m → b ≡ is_leap_year y → leap_day ≡ bool_byte b → get_or (0 ∷ 31 ∷ 59 ∷ 90 ∷ 120 ∷ 151 ∷ 181 ∷ 212 ∷ 243 ∷ 273 ∷ 304 ∷ 334 ∷ []) (m - 1) 0 + leap_day + d ≡ day_of_year y m d
place_late y m d leap_day true h late e g = omega (arith, (months_before y m h).0 late (sym e), g)
place_late y m d leap_day false h late e g = omega (arith, (months_before y m h).1 late (sym e), g)

pub not_late : (m : ℕ) → m ≤ 2 → nat_lt 2 m ≡ false
not_late m early = grind (arith, nat_tests)

pub place_early : (y : ℤ) (m d leap_day : ℕ) (b : Bool) → IsInRange 1 12 m → m ≤ 2 → b ≡ false → leap_day ≡ bool_byte b → get_or (0 ∷ 31 ∷ 59 ∷ 90 ∷ 120 ∷ 151 ∷ 181 ∷ 212 ∷ 243 ∷ 273 ∷ 304 ∷ 334 ∷ []) (m - 1) 0 + leap_day + d ≡ day_of_year y m d
place_early y m d leap_day true h early e g = absurd (cc)
place_early y m d leap_day false h early e g = omega (arith, (months_before y m h).2 early, g)
