-- Bits of words as days.
use Rattle.std.proofs.Common.{◌≡◌, ℕ, zero, suc, ◌+◌, ◌*◌, ◌-◌, ◌/◌, ◌%◌, ◌^◌, ◌<◌, ◌≤◌, Bool, true, false, ◌&&◌, ◌||◌, eqb, ltb, nat_lt, min, max, bit_or, bit_and, if◌then◌else◌, refl, ap, sym, ◌∙◌, arith, inl, inr}
use Rattle.std.specs.Int.{bit_at}
use Rattle.std.proofs.lemmas.Bool.{cases_eq}
use Rattle.std.proofs.lemmas.Bool.Decides.{nat_tests}
use Rattle.std.proofs.lemmas.Nat.{shr-shr, one_shl, pow_pos}
use Rattle.std.proofs.lemmas.Nat.Bits.{bit_at-lt, bit_at_or, bit_at_and, bit_at-zero, bit_at-pow_same, bit_at-pow_other, bit_at_ones, bit_at_ones_above, bit_at_cat_low, bit_at_cat_high}
use Rattle.croner_pattern.specs.Days.{weekday_of}
use Rattle.croner_pattern.specs.Private.DayBits.{has_bit}
use Rattle.croner_pattern.proofs.days.DayTable.{all_from, all_from-at, same, same-true}
use Rattle.croner_pattern.proofs.days.JoinedTests.{and_true, and_false}

-- a bit of words that are joined or moved
digits : (x y : ℕ) → x < 2 → y < 2 → (eqb (max x y) 1 ≡ (eqb x 1 || eqb y 1)) × (eqb (min x y) 1 ≡ (eqb x 1 && eqb y 1))
digits zero zero a b = (refl, refl)
digits zero (suc zero) a b = (refl, refl)
digits (suc zero) zero a b = (refl, refl)
digits (suc zero) (suc zero) a b = (refl, refl)
digits zero (suc (suc y)) a b = absurd (omega arith)
digits (suc zero) (suc (suc y)) a b = absurd (omega arith)
digits (suc (suc x)) y a b = absurd (omega arith)

pub has-or : (a b p : ℕ) → has_bit (bit_or a b) p ≡ (has_bit a p || has_bit b p)
has-or a b p = ap (λ x. eqb x 1) (bit_at_or a b p) ∙ (digits (bit_at a p) (bit_at b p) (bit_at-lt a p) (bit_at-lt b p)).0

pub has-and : (a b p : ℕ) → has_bit (bit_and a b) p ≡ (has_bit a p && has_bit b p)
has-and a b p = ap (λ x. eqb x 1) (bit_at_and a b p) ∙ (digits (bit_at a p) (bit_at b p) (bit_at-lt a p) (bit_at-lt b p)).1

pub has-none : (p : ℕ) → has_bit 0 p ≡ false
has-none p = ap (λ x. eqb x 1) (bit_at-zero p)

pub has-shr : (a k p : ℕ) → has_bit (a / 2 ^ k) p ≡ has_bit a (k + p)
has-shr a k p = ap (λ x. eqb (x % 2) 1) (shr-shr a k p)

low_bits : (a p : ℕ) → p < 32 → bit_at (a % 2 ^ 32) p ≡ bit_at a p
low_bits a p h =
    let whole : a / 2 ^ 32 * 2 ^ 32 + a % 2 ^ 32 ≡ a = omega arith in
    sym (bit_at_cat_low (a / 2 ^ 32) 32 (a % 2 ^ 32) p h) ∙ ap (λ x. bit_at x p) whole

pub has-shl : (a k p : ℕ) → p < 32 → k ≤ p → has_bit (a * 2 ^ k % 2 ^ 32) p ≡ has_bit a (p - k)
has-shl a k p h from =
    let whole : a * 2 ^ k ≡ a * 2 ^ k + 0 = omega arith in
    ap (λ x. eqb x 1) (low_bits (a * 2 ^ k) p h ∙ ap (λ x. bit_at x p) whole ∙ bit_at_cat_high a k 0 p (pow_pos k) from)

pub has-shl_below : (a k p : ℕ) → p < 32 → p < k → has_bit (a * 2 ^ k % 2 ^ 32) p ≡ false
has-shl_below a k p h below =
    let whole : a * 2 ^ k ≡ a * 2 ^ k + 0 = omega arith in
    ap (λ x. eqb x 1) (low_bits (a * 2 ^ k) p h ∙ ap (λ x. bit_at x p) whole ∙ bit_at_cat_low a k 0 p below ∙ bit_at-zero p)

-- the bit of one day
pub has-one : (k p : ℕ) → k < 32 → has_bit (1 * 2 ^ k % 2 ^ 32) p ≡ eqb p k
has-one k p h = ap (λ x. has_bit x p) (one_shl k 32 h) ∙ elim (cases_eq p k) [
  | inl e ↦ ap (λ i. has_bit (2 ^ k) i) e ∙ ap (λ x. eqb x 1) (bit_at-pow_same k) ∙ (let is : eqb p k ≡ true = grind (arith, nat_tests) in sym is)
  | inr ne ↦ ap (λ x. eqb x 1) (bit_at-pow_other k p ne) ∙ (let is : eqb p k ≡ false = grind (arith, nat_tests) in sym is)
]

-- the bits below a place
pub has-below : (k p : ℕ) → k < 32 → has_bit (1 * 2 ^ k % 2 ^ 32 - 1) p ≡ nat_lt p k
has-below k p h =
    ap (λ x. has_bit (x - 1) p) (one_shl k 32 h)
    ∙ elim (nat_lt p k) as (λ b. nat_lt p k ≡ b → has_bit (2 ^ k - 1) p ≡ b) [
      | true ↦ λ lt. ap (λ x. eqb x 1) (bit_at_ones k p (grind (arith, nat_tests)))
      | false ↦ λ ge. ap (λ x. eqb x 1) (bit_at_ones_above k p (grind (arith, nat_tests)))
    ] refl

-- the last seven days of the four lengths
last_table : all_from 28 4 (λ len. all_from 0 len (λ place. same (has_bit (127 * 2 ^ (len - 7) % 2 ^ 32) place) (ltb len ((place + 1) + 7)))) ≡ true
last_table = refl

pub has-last_week : (len place : ℕ) → 28 ≤ len → len ≤ 31 → place < len → has_bit (127 * 2 ^ (len - 7) % 2 ^ 32) place ≡ ltb len ((place + 1) + 7)
has-last_week len place a b c =
    same-true _ _
    (all_from-at 0 len (λ place. same (has_bit (127 * 2 ^ (len - 7) % 2 ^ 32) place) (ltb len ((place + 1) + 7))) place
    (all_from-at 28 4 (λ len. all_from 0 len (λ place. same (has_bit (127 * 2 ^ (len - 7) % 2 ^ 32) place) (ltb len ((place + 1) + 7)))) len last_table a (omega arith)) (omega arith) (omega arith))

-- a set of weekdays, turned by the first of the month and written five times
abbrev pub week_word : ℕ → ℕ → ℕ
week_word set first = bit_and (bit_or set (set * 2 ^ 7 % 2 ^ 32) / 2 ^ first) 127 * 270549121 % 2 ^ 32

abbrev week_agrees : ℕ → ℕ → ℕ → Bool
week_agrees set first place = same (has_bit (week_word set first) place) (has_bit set (weekday_of first (place + 1)))

week_table : all_from 0 128 (λ set. all_from 0 7 (λ first. all_from 0 31 (week_agrees set first))) ≡ true
week_table = refl

pub has-week : (set first place : ℕ) → set < 128 → first < 7 → place < 31 → has_bit (week_word set first) place ≡ has_bit set (weekday_of first (place + 1))
has-week set first place a b c =
    same-true _ _
    (all_from-at 0 31 (week_agrees set first) place
    (all_from-at 0 7 (λ first. all_from 0 31 (week_agrees set first)) first
    (all_from-at 0 128 (λ set. all_from 0 7 (λ first. all_from 0 31 (week_agrees set first))) set week_table (omega arith) (omega arith)) (omega arith) (omega arith)) (omega arith) (omega arith))

-- the days that have so many like days before them
nth_table : all_from 0 5 (λ before. all_from 0 31 (λ place. same (has_bit (127 * 2 ^ (7 * before) % 2 ^ 32) place) (eqb (((place + 1) - 1) / 7) before))) ≡ true
nth_table = refl

pub has-nth_week : (before place : ℕ) → before < 5 → place < 31 → has_bit (127 * 2 ^ (7 * before) % 2 ^ 32) place ≡ eqb (((place + 1) - 1) / 7) before
has-nth_week before place a b =
    same-true _ _
    (all_from-at 0 31 (λ place. same (has_bit (127 * 2 ^ (7 * before) % 2 ^ 32) place) (eqb (((place + 1) - 1) / 7) before)) place
    (all_from-at 0 5 (λ before. all_from 0 31 (λ place. same (has_bit (127 * 2 ^ (7 * before) % 2 ^ 32) place) (eqb (((place + 1) - 1) / 7) before))) before nth_table (omega arith) (omega arith)) (omega arith) (omega arith))

-- a word that is cut to its lowest bits
pub has-cut : (word k p : ℕ) → p < k → has_bit (bit_and word (2 ^ k - 1)) p ≡ has_bit word p
has-cut word k p h = has-and word (2 ^ k - 1) p ∙ ap (λ x. has_bit word p && eqb x 1) (bit_at_ones k p h) ∙ and_true (has_bit word p)

-- a bit is its test
digit : (x : ℕ) → x < 2 → x ≡ (if eqb x 1 then 1 else 0)
digit zero h = refl
digit (suc zero) h = refl
digit (suc (suc x)) h = absurd (omega arith)

pub bit-of : (word p : ℕ) → bit_at word p ≡ (if has_bit word p then 1 else 0)
bit-of word p = digit (bit_at word p) (bit_at-lt word p)

-- the lowest bit two places up, and each bit one place up
odd_only : (k : ℕ) → has_bit 1 (suc k) ≡ false
odd_only k = ap (λ x. eqb x 1) (bit_at-pow_other 0 (suc k) (λ e. absurd (omega arith)))

pub has-first : (word p : ℕ) → p < 32 → has_bit (bit_and word 1 * 2 ^ 2 % 2 ^ 32) p ≡ (eqb p 2 && has_bit word 0)
has-first word zero h = has-shl_below (bit_and word 1) 2 0 h (omega arith)
has-first word (suc zero) h = has-shl_below (bit_and word 1) 2 1 h (omega arith)
has-first word (suc (suc zero)) h = has-shl (bit_and word 1) 2 2 h (omega arith) ∙ has-and word 1 0 ∙ and_true (has_bit word 0)
has-first word (suc (suc (suc p))) h =
    let back : suc (suc (suc p)) - 2 ≡ suc p = omega arith in
    let apart : eqb (suc (suc (suc p))) 2 ≡ false = grind (arith, nat_tests) in
    has-shl (bit_and word 1) 2 (suc (suc (suc p))) h (omega arith) ∙ ap (has_bit (bit_and word 1)) back
    ∙ has-and word 1 (suc p) ∙ ap (λ b. has_bit word (suc p) && b) (odd_only p) ∙ and_false (has_bit word (suc p))
    ∙ ap (λ b. b && has_bit word 0) (sym apart)

pub has-next : (word p : ℕ) → p < 32 → has_bit (word * 2 ^ 1 % 2 ^ 32) p ≡ (ltb 0 p && has_bit word (p - 1))
has-next word zero h = has-shl_below word 1 0 h (omega arith)
has-next word (suc p) h =
    let above : ltb 0 (suc p) ≡ true = grind (arith, nat_tests) in
    has-shl word 1 (suc p) h (omega arith) ∙ ap (λ b. b && has_bit word (suc p - 1)) (sym above)
