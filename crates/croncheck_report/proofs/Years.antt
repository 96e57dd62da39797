-- Years that a pattern names.
use Rattle.std.proofs.Common.{◌≡◌, ◌<◌, ◌≤◌, ◌+◌, ◌&&◌, ◌∙◌, inl, inr, ℕ, Bool, true, false, ℤ, pos, ◌≤ℤ◌, ◌<ℤ◌, unsigned_abs, int_le, refl, sym, subst, arith}
use Rattle.std.specs.Prelude.{◌↔◌, IsTrue}
use Rattle.std.proofs.lemmas.Bool.{cases_lt, false≢true}
use Rattle.std.proofs.lemmas.Int.{ints}
use Rattle.croner_base.specs.Limits.{first_year, last_year}
use Rattle.croner_base.proofs.tables.TableTests.{both_parts, le_of, le_test}
use Rattle.croner_base.proofs.zones.ZoneYears.{nonneg_abs}
use Rattle.croner_pattern.specs.Meaning.{Meaning}
use Rattle.croner_pattern.specs.Schedule.{is_plain, is_year_matching}
use Rattle.croncheck_report.specs.Told.{NamesNoneFrom}

no_middle : (a b c : Bool) → b ≡ false → ((a && b) && c) ≡ false
no_middle a true c h = absurd (cc)
no_middle true false c h = refl
no_middle false false c h = refl

no_first : (a b c : Bool) → a ≡ false → ((a && b) && c) ≡ false
no_first true b c h = absurd (cc)
no_first false b c h = refl

second_no : (a b : Bool) → (a && b) ≡ false → a ≡ true → b ≡ false
second_no true b h e = h
second_no false b h e = absurd (cc)

int_cases : (a b : ℤ) → (t : Bool) → int_le b a ≡ t → (P : Type 0) → (a <ℤ b → P) → (b ≤ℤ a → P) → P
int_cases a b true is P less most = most (grind (arith, ints))
int_cases a b false is P less most = less (grind (arith, ints))

-- a year before the first isn't named, nor one after the last
too_early : (m : Meaning) (k : ℤ) → k <ℤ pos first_year → is_year_matching m k ≡ false
too_early m k h =
    let no : int_le (pos first_year) k ≡ false = grind (arith, ints) in
    no_first (int_le (pos first_year) k) (int_le k (pos last_year)) (is_plain m.years (unsigned_abs k)) no

too_late : (m : Meaning) (k : ℤ) → pos last_year <ℤ k → is_year_matching m k ≡ false
too_late m k h =
    let no : int_le k (pos last_year) ≡ false = grind (arith, ints) in
    no_middle (int_le (pos first_year) k) (int_le k (pos last_year)) (is_plain m.years (unsigned_abs k)) no

in_between : (m : Meaning) (year : ℤ) (end : ℕ) → last_year < end
    → ((k : ℕ) → 1 ≤ k → k < end → (int_le year (pos k) && is_year_matching m (pos k)) ≡ false)
    → (k : ℤ) → year ≤ℤ k → pos first_year ≤ℤ k → k ≤ℤ pos last_year → is_year_matching m k ≡ false
in_between m year end past passed k from first last =
    let n : ℕ = unsigned_abs k in
    let is : pos n ≡ k = nonneg_abs k (omega (arith, ints, first)) in
    let from' : year ≤ℤ pos n = subst (λ (z : ℤ). year ≤ℤ z) (sym is) from in
    let low : 1 ≤ n = omega (arith, ints, is, first) in
    let high : n < end = omega (arith, ints, is, last, past) in
    subst (λ (z : ℤ). is_year_matching m z ≡ false) is
    (second_no (int_le year (pos n)) (is_year_matching m (pos n)) (passed n low high) (le_test year (pos n) from'))

-- none from a year on where none of the years that can be named is
pub none_from : (m : Meaning) (year : ℤ) (end : ℕ) → last_year < end
    → ((k : ℕ) → 1 ≤ k → k < end → (int_le year (pos k) && is_year_matching m (pos k)) ≡ false) → NamesNoneFrom m year
none_from m year end past passed = λ k from.
    int_cases k (pos first_year) (int_le (pos first_year) k) refl (is_year_matching m k ≡ false) (λ early. too_early m k early) (λ first.
    int_cases (pos last_year) k (int_le k (pos last_year)) refl (is_year_matching m k ≡ false) (λ late. too_late m k late)
    (λ last. in_between m year end past passed k from first last))

pub none_is : (m : Meaning) (year : ℤ) (end : ℕ) → last_year < end
    → ((k : ℕ) → 1 ≤ k → k < end → (int_le year (pos k) && is_year_matching m (pos k)) ≡ false) → IsTrue true ↔ NamesNoneFrom m year
none_is m year end past passed = (λ t. none_from m year end past passed, λ none. refl)

-- one more that isn't
pub none_before_next : (m : Meaning) (year : ℤ) (n : ℕ) → ((k : ℕ) → 1 ≤ k → k < n → (int_le year (pos k) && is_year_matching m (pos k)) ≡ false)
    → (int_le year (pos n) && is_year_matching m (pos n)) ≡ false
    → (k : ℕ) → 1 ≤ k → k < n + 1 → (int_le year (pos k) && is_year_matching m (pos k)) ≡ false
none_before_next m year n passed here = λ k low high. elim (cases_lt k n) [
  | inl before ↦ passed k low before
  | inr at ↦
      let same : n ≡ k = omega (arith, at, high) in
      subst (λ (j : ℕ). (int_le year (pos j) && is_year_matching m (pos j)) ≡ false) same here
]

-- one that is named
pub one_is : (m : Meaning) (year : ℤ) (k : ℕ) → (int_le year (pos k) && is_year_matching m (pos k)) ≡ true → IsTrue false ↔ NamesNoneFrom m year
one_is m year k here =
    let parts = both_parts (int_le year (pos k)) (is_year_matching m (pos k)) here in
    (λ t. absurd (false≢true t), λ none. absurd (false≢true (sym (none (pos k) (le_of year (pos k) parts.0)) ∙ parts.1)))
