-- Kinds of month and of year as the bits of a word.
use Rattle.std.proofs.Common.{◌≡◌, ℤ, pos, ◌↔◌, ℕ, ◌+◌, ◌-◌, ◌*◌, ◌/◌, ◌%◌, ◌^◌, ◌<◌, ◌≤◌, ◌⊎◌, Bool, true, false, eqb, bit_and, bit_or, inl, inr, refl, sym, ap, subst, ◌∙◌, arith, w32}
use Rattle.std.specs.Int.{IsInRange, bit_at, trailing_zeros}
use Rattle.std.proofs.lemmas.Bool.{cases_eq, cases_lt, eqb-true}
use Rattle.std.proofs.lemmas.Nat.{shr-shr}
use Rattle.std.proofs.lemmas.Nat.Bits.{bit_at-lt, bit_at-trailing_zeros, bit_at_and, bit_at_or, bit_at_ones, bit_at_above, bit_at_cat_low, bit_at_cat_high, bit_at-zero, bit_at_set_same, bit_at_set_other}
use Rattle.jiff_core.specs.Calendar.{days_in_month}
use Rattle.jiff_core.proofs.SignedLemmas.{signed_arith}
use Rattle.croner_base.specs.declared.time.Direction.TheVariants.{Forward}
use Rattle.croner_pattern.specs.Meaning.{Meaning}
use Rattle.croner_pattern.specs.Schedule.{first_weekday, IsDayMask}
use Rattle.croner_pattern.proofs.days.DayTable.{all_from, all_from-at}
use Rattle.croner_pattern.specs.Directions.{Reaches}
use Rattle.croner_pattern.specs.Private.Cursor.{month_kind, year_kind, kind_of, IsPlainWithin, IsNearest, NoneOn, HasOpenDay, HasOpenMonth, AreMonthKinds, AreYearKinds}
use Rattle.croner_pattern.proofs.civil.DateSearch.{mask-day, day-mask, no_day}

-- ---- the kinds of month

-- the kinds up to a number of them: each has its bit where a month of the kind has a day that fits, and no other bit is set
pub record MonthKindsBelow (m : Meaning) (done bits : ℕ) : Type 0 where
  pub known : (k : ℕ) → k < done → (bit_at bits k ≡ 1) ↔ HasOpenDay m (28 + k / 7) (k % 7)
  pub rest : (k : ℕ) → done ≤ k → bit_at bits k ≡ 0

pub no_month_kinds : (m : Meaning) → MonthKindsBelow m 0 0
no_month_kinds m = record { known = λ k lt. absurd (omega (arith, lt)); rest = λ k le. bit_at-zero k }

-- a month has a day that fits where its mask is not 0
pub kind_added : (m : Meaning) (done bits days : ℕ) → done < 32 → IsDayMask m (28 + done / 7) (done % 7) days → 0 < days → days < 2 ^ 32 → MonthKindsBelow m done bits → MonthKindsBelow m (done + 1) (bit_or bits (1 * 2 ^ done % 2 ^ 32))
kind_added m done bits days small mask some fits h = record {
  known = λ k lt. elim (cases_eq k done) [
    | inl e ↦ (λ b. rw e meant, λ q. ap (bit_at (bit_or bits (1 * 2 ^ done % 2 ^ 32))) e ∙ bit_at_set_same w32 bits done small)
    | inr ne ↦
        let same = bit_at_set_other w32 bits done small k ne in
        let before = h.known k (omega arith) in
        (λ b. before.0 (sym same ∙ b), λ q. same ∙ before.1 q)
  ];
  rest = λ k le. bit_at_set_other w32 bits done small k (λ e. omega arith) ∙ h.rest k (omega arith);
}
  where
    meant : HasOpenDay m (28 + done / 7) (done % 7)
    meant =
        let place : ℕ = trailing_zeros w32 days in
        let one = (bit_at-trailing_zeros w32 days some fits).1 in
        let e : place + 1 - 1 ≡ place = omega arith in
        let d = mask-day m (28 + done / 7) (done % 7) days (place + 1) mask (record { low = omega arith; bit = rw e one }) in
        record { day = place + 1; low = omega arith; high = d.0; fits = d.1 }

pub kind_left_out : (m : Meaning) (done bits days : ℕ) → IsDayMask m (28 + done / 7) (done % 7) days → days ≡ 0 → MonthKindsBelow m done bits → MonthKindsBelow m (done + 1) bits
kind_left_out m done bits days mask none h = record {
  known = λ k lt. elim (cases_eq k done) [
    | inl e ↦ (λ b. absurd (omega (arith, b, h.rest k (omega arith))), λ q. absurd (nothing (rw e at q)))
    | inr ne ↦ h.known k (omega arith)
  ];
  rest = λ k le. h.rest k (omega arith);
}
  where
    nothing : ¬ (HasOpenDay m (28 + done / 7) (done % 7))
    nothing h = no_day days h.day none (day-mask m (28 + done / 7) (done % 7) days h.day mask h.low h.high h.fits)

-- all 28 kinds
pub all_month_kinds : (m : Meaning) (kinds : ℕ) → MonthKindsBelow m 28 kinds → AreMonthKinds m kinds
all_month_kinds m kinds h length first range small =
    let len : 28 + ((length - 28) * 7 + first) / 7 ≡ length = omega (arith, range.0) in
    let day : ((length - 28) * 7 + first) % 7 ≡ first = omega arith in
    let there = h.known (month_kind length first) (omega (arith, range.0, range.1)) in
    rw (len, day) at there

-- ---- the bits of a week

pub week_of_length : (months length first : ℕ) → first < 7 → bit_at (bit_and (months / 2 ^ month_kind length 0) 127) first ≡ bit_at months (month_kind length first)
week_of_length months length first small =
    let row : ℕ = months / 2 ^ month_kind length 0 in
    let cut : bit_at (bit_and row 127) first ≡ bit_at row first = omega (arith, bit_at_and row 127 first, bit_at_ones 7 first small, bit_at-lt row first) in
    let place : month_kind length 0 + first ≡ month_kind length first = omega arith in
    cut ∙ ap (λ x. x % 2) (shr-shr months (month_kind length 0) first) ∙ ap (bit_at months) place

-- a week turned by so many days
abbrev turned_week : ℕ → ℕ → ℕ
turned_week week days = bit_and (bit_or week (week * 2 ^ 7 % 2 ^ 32) / 2 ^ days) 127

abbrev turn_agrees : ℕ → ℕ → ℕ → Bool
turn_agrees week days weekday = eqb (bit_at (turned_week week days) weekday) (bit_at week ((weekday + days) % 7))

turn_table : all_from 0 128 (λ week. all_from 0 7 (λ days. all_from 0 7 (turn_agrees week days))) ≡ true
turn_table = refl

pub week_turned : (week days weekday : ℕ) → week < 128 → days < 7 → weekday < 7 → bit_at (turned_week week days) weekday ≡ bit_at week ((weekday + days) % 7)
week_turned week days weekday a b c =
    eqb-true _ _
    (all_from-at 0 7 (turn_agrees week days) weekday
    (all_from-at 0 7 (λ days. all_from 0 7 (turn_agrees week days)) days
    (all_from-at 0 128 (λ week. all_from 0 7 (λ days. all_from 0 7 (turn_agrees week days))) week turn_table (omega arith) (omega arith)) (omega arith) (omega arith)) (omega arith) (omega arith))

-- the kind of the month of a year, from the weekday on which the year begins
pub open-beginning : (m : Meaning) (months week out days len first weekday : ℕ) → AreMonthKinds m months → IsInRange 28 31 len → first < 7 → weekday ≡ (first + days) % 7 → ((w : ℕ) → w < 7 → bit_at out w ≡ bit_at week ((w + days) % 7)) → ((w : ℕ) → w < 7 → bit_at week w ≡ bit_at months (month_kind len w)) → (bit_at out first ≡ 1) ↔ HasOpenDay m len weekday
open-beginning m months week out days len first weekday kinds range small e turn cut =
    let there : weekday < 7 = omega arith in
    let bit : bit_at out first ≡ bit_at months (month_kind len weekday) = turn first small ∙ ap (bit_at week) (sym e) ∙ cut weekday there in
    rw bit (kinds len weekday range there)

-- the common years have the lower bits of the kinds of year, and the leap years the higher
common_bit : (common leaps first : ℕ) → leaps < 128 → first < 7 → bit_at (bit_or common (leaps * 2 ^ 7 % 2 ^ 32)) first ≡ bit_at common first
common_bit common leaps first small low =
    let moved : leaps * 2 ^ 7 % 2 ^ 32 ≡ leaps * 2 ^ 7 + 0 = omega arith in
    let none : bit_at (leaps * 2 ^ 7 % 2 ^ 32) first ≡ 0 = ap (λ n. bit_at n first) moved ∙ bit_at_cat_low leaps 7 0 first low ∙ bit_at-zero first in
    omega (arith, bit_at_or common (leaps * 2 ^ 7 % 2 ^ 32) first, none)

leap_bit : (common leaps first : ℕ) → common < 128 → leaps < 128 → bit_at (bit_or common (leaps * 2 ^ 7 % 2 ^ 32)) (first + 7) ≡ bit_at leaps first
leap_bit common leaps first none small =
    let moved : leaps * 2 ^ 7 % 2 ^ 32 ≡ leaps * 2 ^ 7 + 0 = omega arith in
    let back : first + 7 - 7 ≡ first = omega arith in
    let there : bit_at (leaps * 2 ^ 7 % 2 ^ 32) (first + 7) ≡ bit_at leaps first = ap (λ n. bit_at n (first + 7)) moved ∙ bit_at_cat_high leaps 7 0 (first + 7) (omega arith) (omega arith) ∙ ap (bit_at leaps) back in
    omega (arith, bit_at_or common (leaps * 2 ^ 7 % 2 ^ 32) (first + 7), bit_at_above common 7 (first + 7) none (omega arith), there)

pub open_kind : (Open : Type 0) (leap : Bool) (common leaps first : ℕ) → common < 128 → leaps < 128 → first < 7 → (leap ≡ false → (bit_at common first ≡ 1) ↔ Open) → (leap ≡ true → (bit_at leaps first ≡ 1) ↔ Open) → (bit_at (bit_or common (leaps * 2 ^ 7 % 2 ^ 32)) (kind_of leap first) ≡ 1) ↔ Open
open_kind Open true common leaps first a b small f t = let bit = leap_bit common leaps first a b in rw bit (t refl)
open_kind Open false common leaps first a b small f t = let bit = common_bit common leaps first b small in rw bit (f refl)

-- ---- the kinds of year

joined_bit : (a b i : ℕ) → (bit_at (bit_or a b) i ≡ 1) ↔ ((bit_at a i ≡ 1) ⊎ (bit_at b i ≡ 1))
joined_bit a b i = (
  λ h. elim (cases_eq (bit_at a i) 1) [ inl e ↦ inl e | inr ne ↦ inr (omega (arith, h, bit_at_or a b i, bit_at-lt a i, bit_at-lt b i)) ],
  λ h. elim h [ inl e ↦ omega (arith, e, bit_at_or a b i, bit_at-lt b i) | inr e ↦ omega (arith, e, bit_at_or a b i, bit_at-lt a i) ],
)

-- the kinds of year that have a named month before a number with a day that fits
pub record YearKindsBelow (m : Meaning) (from kinds : ℕ) : Type 0 where
  pub low : 1 ≤ from
  pub high : from ≤ 13
  pub is_open : (year : ℤ) → bit_at kinds (year_kind year) ≡ 1 → HasOpenMonth m year
  pub has_kind : (year : ℤ) (h : HasOpenMonth m year) → h.month < from → bit_at kinds (year_kind year) ≡ 1

pub no_year_kinds : (m : Meaning) → YearKindsBelow m 1 0
no_year_kinds m = record {
  low = omega arith;
  high = omega arith;
  is_open = λ year b. absurd (omega (arith, b, bit_at-zero (year_kind year)));
  has_kind = λ year h lt. absurd (omega (arith, lt, h.low));
}

pub month_added : (m : Meaning) (from month kinds added : ℕ) → YearKindsBelow m from kinds → IsNearest pos (IsPlainWithin m.months 1 12) Forward (pos from) month → ((year : ℤ) → (bit_at added (year_kind year) ≡ 1) ↔ HasOpenDay m (days_in_month year month) (first_weekday year month)) → YearKindsBelow m (month + 1) (bit_or kinds added)
month_added m from month kinds added before near opens = record {
  low = omega arith;
  high = omega (arith, near.is.high);
  is_open = λ year b. elim ((joined_bit kinds added (year_kind year)).0 b) [
    | inl old ↦ before.is_open year old
    | inr new ↦ record { month = month; low = near.is.low; high = near.is.high; named = near.is.plain; has_open = (opens year).0 new }
  ];
  has_kind = λ year h lt. (joined_bit kinds added (year_kind year)).1 (elim (cases_lt h.month from) [
    | inl old ↦ inl (before.has_kind year h old)
    | inr le ↦
        let on : Reaches Forward (pos month) (pos h.month) = near.first h.month (omega (arith, signed_arith, le)) (record { low = h.low; high = h.high; plain = h.named }) in
        let same : h.month ≡ month = omega (arith, signed_arith, on, lt) in
        inr ((opens year).1 (subst (λ (n : ℕ). HasOpenDay m (days_in_month year n) (first_weekday year n)) same h.has_open))
  ]);
}

pub all_year_kinds : (m : Meaning) (from kinds : ℕ) → YearKindsBelow m from kinds → NoneOn pos (IsPlainWithin m.months 1 12) Forward (pos from) → AreYearKinds m kinds
all_year_kinds m from kinds all none year = (
  all.is_open year,
  λ h. elim (cases_lt h.month from) [
    | inl lt ↦ all.has_kind year h lt
    | inr le ↦ absurd (none h.month (omega (arith, signed_arith, le)) (record { low = h.low; high = h.high; plain = h.named }))
  ],
)
