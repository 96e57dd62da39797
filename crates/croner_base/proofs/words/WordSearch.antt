-- Looking for a value word by word.
use Rattle.std.proofs.Common.{◌≡◌, true, false, eqb, eq-eqb, ℕ, suc, ◌+◌, ◌-◌, ◌*◌, ◌/◌, ◌%◌, ◌^◌, ◌<◌, ◌≤◌, List, length, get_or, bit_and, ap, ◌∙◌, arith, subst, inl, inr, w64}
use Rattle.std.specs.Int.{bit_at, trailing_zeros, leading_zeros}
use Rattle.std.proofs.lemmas.Bool.{cases_eq, cases_lt, ne_eqb}
use Rattle.std.proofs.lemmas.List.{get_or_past}
use Rattle.std.proofs.lemmas.Nat.{leading_top, pow_pos, le-div, div_below}
use Rattle.std.proofs.lemmas.Nat.Bits.{bit_at_and, bit_at-lt, bit_at-zero, bit_at-trailing_zeros, ones_shl, ones_shr, bit_at_ones, bit_at_ones_above, bit_at_above, bit_at_mask_inside, bit_at_mask_below}
use native.Mathlib.Nat.{pow-suc}
use Rattle.croner_base.specs.Private.words.Rows.{in_row}
use Rattle.croner_base.specs.Private.words.Masks.{Masks, MasksFrom, MasksTo}
use Rattle.croner_base.specs.Private.words.Next.{NoneFrom, IsLeast, IsGreatest}

-- ---- masks

-- a value that is not looked for has no bit in the mask
pub masked_off : (mask i b : ℕ) (looked : ℕ → Type 0) → Masks mask i looked → b < 64 → (looked (i * 64 + b) → ⊥) → bit_at mask b ≡ 0
masked_off mask i b looked masks h off = elim (cases_eq (bit_at mask b) 1) [
  | inl one ↦ absurd (off (masks.only b h one))
  | inr ne ↦ omega (arith, bit_at-lt mask b)
]

-- the values of word i from one of its bits on
pub first_mask : (from i shift : ℕ) → from ≡ i * 64 + shift → shift < 64 → MasksFrom ((2 ^ 64 - 1) * 2 ^ shift % 2 ^ 64) from i
first_mask from i shift place within =
    let e = ones_shl 64 shift (omega arith) in
    record {
      on = λ b h le. ap (λ m. bit_at m b) e ∙ bit_at_mask_inside shift 64 b (omega arith) h;
      only = λ b h one. elim (cases_lt b shift) [
        | inl lt ↦ absurd (omega (arith, ap (λ m. bit_at m b) e, bit_at_mask_below shift 64 b lt))
        | inr le ↦ omega arith
      ];
    }

-- and those up to one
pub last_mask : (to i shift : ℕ) → to + shift ≡ i * 64 + 63 → shift < 64 → MasksTo ((2 ^ 64 - 1) / 2 ^ shift) to i
last_mask to i shift place within =
    let e = ones_shr 64 shift (omega arith) in
    record {
      on = λ b h le. ap (λ m. bit_at m b) e ∙ bit_at_ones (64 - shift) b (omega arith);
      only = λ b h one. elim (cases_lt b (64 - shift)) [
        | inr past ↦ absurd (omega (arith, ap (λ m. bit_at m b) e, bit_at_ones_above (64 - shift) b past))
        | inl lt ↦ omega arith
      ];
    }

-- all values of a word are looked for
whole_mask : (i : ℕ) (looked : ℕ → Type 0) → ((b : ℕ) → b < 64 → looked (i * 64 + b)) → Masks (2 ^ 64 - 1) i looked
whole_mask i looked all = record { on = λ b h is. bit_at_ones 64 b h; only = λ b h one. all b h }

-- from a value of an earlier word on, and up to one of a later word, all are looked for
pub whole_from : (from i : ℕ) → from ≤ i * 64 → MasksFrom (2 ^ 64 - 1) from i
whole_from from i le = whole_mask i _ (λ b h. omega arith)

pub whole_to : (to i : ℕ) → i * 64 + 63 ≤ to → MasksTo (2 ^ 64 - 1) to i
whole_to to i le = whole_mask i _ (λ b h. omega arith)

-- ---- one masked word

in_word : (row : List ℕ) (i v : ℕ) → v / 64 ≡ i → in_row row v ≡ eqb (bit_at (get_or row i 0) (v % 64)) 1
in_word row i v e = ap (λ j. eqb (bit_at (get_or row j 0) (v % 64)) 1) e

-- what a mask leaves of a word
abbrev left_of : List ℕ → ℕ → ℕ → ℕ
left_of row i mask = bit_and (get_or row i 0) mask

-- a bit that is left is a value that is looked for
left : (row : List ℕ) (i mask b : ℕ) (looked : ℕ → Type 0) → Masks mask i looked → b < 64 → bit_at (left_of row i mask) b ≡ 1 → (looked (i * 64 + b)) × (in_row row (i * 64 + b) ≡ true)
left row i mask b looked masks h one =
    let place : (i * 64 + b) / 64 ≡ i = omega arith in
    let bit : (i * 64 + b) % 64 ≡ b = omega arith in (
      masks.only b h (omega (arith, bit_at_and (get_or row i 0) mask b, bit_at-lt mask b, bit_at-lt (get_or row i 0) b)),
      in_word row i (i * 64 + b) place ∙ eq-eqb _ 1 (ap (bit_at (get_or row i 0)) bit ∙ omega (arith, bit_at_and (get_or row i 0) mask b, bit_at-lt (get_or row i 0) b, bit_at-lt mask b)),
    )

-- and where none is left, the row has no such value
none_left : (row : List ℕ) (i mask v : ℕ) (looked : ℕ → Type 0) → Masks mask i looked → v / 64 ≡ i → looked v → bit_at (left_of row i mask) (v % 64) ≡ 0 → in_row row v ≡ false
none_left row i mask v looked masks place is none =
    let e : v ≡ i * 64 + v % 64 = omega arith in
    in_word row i v place ∙ ne_eqb _ 1 (λ one. absurd (omega (arith, bit_at_and (get_or row i 0) mask (v % 64), masks.on (v % 64) (omega arith) (subst looked e is))))

bit_of_none : (n b : ℕ) → n ≡ 0 → bit_at n b ≡ 0
bit_of_none n b e = ap (λ m. bit_at m b) e ∙ bit_at-zero b

-- ---- upwards

-- none between the given value and a later one
abbrev pub HasNone : List ℕ → ℕ → ℕ → Type 0
HasNone row from to = (v : ℕ) → from ≤ v → v < to → in_row row v ≡ false

-- a word with nothing left has no value that is looked for
pub word_of_none : (row : List ℕ) (from i mask : ℕ) → HasNone row from (i * 64) → MasksFrom mask from i → left_of row i mask ≡ 0 → HasNone row from ((i + 1) * 64)
word_of_none row from i mask before masks none v above below = elim (cases_lt v (i * 64)) [
  | inl lt ↦ before v above lt
  | inr le ↦ none_left row i mask v _ masks (omega arith) above (bit_of_none _ (v % 64) none)
]

-- and one with something left has the least
pub word_of_least : (row : List ℕ) (from i mask least : ℕ) → HasNone row from (i * 64) → MasksFrom mask from i → 0 < left_of row i mask → left_of row i mask < 2 ^ 64
    → i * 64 + trailing_zeros w64 (left_of row i mask) ≡ least → IsLeast (in_row row) from least
word_of_least row from i mask least before masks some fits e =
    let t = bit_at-trailing_zeros w64 (left_of row i mask) some fits in
    let found = left row i mask (trailing_zeros w64 (left_of row i mask)) _ masks t.0 t.1 in
    subst (IsLeast (in_row row) from) e (record {
      is_asked = found.0;
      passes = found.1;
      first = λ v above below. elim (cases_lt v (i * 64)) [
        | inl earlier ↦ before v above earlier
        | inr le ↦ none_left row i mask v _ masks (omega (arith, t.0)) above (t.2 (v % 64) (omega (arith, t.0)))
      ];
    })

-- past the row there is none
pub past_row : (row : List ℕ) (from i : ℕ) → HasNone row from (i * 64) → length row ≤ i → NoneFrom (in_row row) from
past_row row from i before h v above = elim (cases_lt v (i * 64)) [
  | inl lt ↦ before v above lt
  | inr le ↦ ap (λ n. eqb n 1) (ap (λ w. bit_at w (v % 64)) (get_or_past row (v / 64) 0 (omega arith)) ∙ bit_at-zero (v % 64))
]

-- ---- downwards

-- none from a value up to the given one
abbrev pub HasNoneDown : List ℕ → ℕ → ℕ → Type 0
HasNoneDown row from to = (v : ℕ) → v ≤ to → from ≤ v → in_row row v ≡ false

-- a word with nothing left has no value that is looked for
pub word_of_none_down : (row : List ℕ) (to i mask : ℕ) → HasNoneDown row ((i + 1) * 64) to → MasksTo mask to i → left_of row i mask ≡ 0 → HasNoneDown row (i * 64) to
word_of_none_down row to i mask behind masks none v below above = elim (cases_lt v ((i + 1) * 64)) [
  | inr le ↦ behind v below le
  | inl lt ↦ none_left row i mask v _ masks (omega arith) below (bit_of_none _ (v % 64) none)
]

-- the highest bit of a number is 1
pub top_bit : (n j : ℕ) → 2 ^ j ≤ n → n < 2 ^ suc j → bit_at n j ≡ 1
top_bit n j le lt =
    let one : n / 2 ^ j ≡ 1 = omega (arith, le-div 1 n (2 ^ j) (pow_pos j) (omega arith), div_below n (2 ^ j) 2 (pow_pos j) (omega (arith, pow-suc 2 j))) in
    ap (λ x. x % 2) one

-- and a word with something left has the greatest
pub word_of_greatest : (row : List ℕ) (to i mask greatest : ℕ) → HasNoneDown row ((i + 1) * 64) to → MasksTo mask to i → 0 < left_of row i mask → left_of row i mask < 2 ^ 64
    → i * 64 + 63 - leading_zeros w64 (left_of row i mask) ≡ greatest → IsGreatest (in_row row) to greatest
word_of_greatest row to i mask greatest behind masks some fits is =
    let t = leading_top 64 (left_of row i mask) some fits in
    let e : i * 64 + t.0 ≡ greatest = omega (arith, t.1) in
    let found = left row i mask t.0 _ masks (omega (arith, t.1)) (top_bit _ t.0 t.2 t.3) in
    subst (IsGreatest (in_row row) to) e (record {
      is_asked = found.0;
      passes = found.1;
      first = λ v below above. elim (cases_lt v ((i + 1) * 64)) [
        | inr le ↦ behind v below le
        | inl near ↦ none_left row i mask v _ masks (omega arith) below (bit_at_above _ (suc t.0) (v % 64) t.3 (omega arith))
      ];
    })
