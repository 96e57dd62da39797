-- The rows: how many stand below one, and that two places of different rows are two.
use Rattle.std.proofs.Common.{◌≡◌, ℕ, zero, suc, ◌+◌, ◌-◌, ◌*◌, ◌/◌, ◌%◌, ◌^◌, ◌<◌, ◌≤◌, bit_and, count_ones, refl, ap, sym, ◌∙◌, arith, inl, inr}
use Rattle.std.specs.Int.{bit_at}
use Rattle.std.proofs.lemmas.Bool.{cases_eq, cases_lt}
use Rattle.std.proofs.lemmas.Nat.{and_mask, one_shl, ones_cat, mod-pow-add, mul-add-lt, same_from_place, mod_below, pow_pos, mul-le, ones_le_self, zero_from_ones}
use Rattle.std.proofs.lemmas.Nat.Bits.{bit_at-lt, bit_at_ones}
use Rattle.std.proofs.lemmas.Bool.Decides.{nat_tests}
use Rattle.croner_base.specs.Field.{room}
use Rattle.croner_base.specs.Private.words.Rows.{rows_below, width}

-- a value that is kept is in a word of its row
pub word_within : (v max : ℕ) → v < room max → v / 64 < width max
word_within v max h = omega arith

-- a row has at most 1,024 words
pub width_small : (max : ℕ) → max < 65536 → width max ≤ 1024
width_small max h = let r : room max ≤ 65536 = room_small max h in omega arith
  where
    room_small : (m : ℕ) → m < 65536 → room m ≤ 65536
    room_small m h = grind (arith, nat_tests)

-- a value that is kept is at most the maximum
pub value_within : (v max : ℕ) → v < room max → v ≤ max
value_within v max h = grind (arith, nat_tests)

-- a value past the room is past the maximum
pub past_max : (v max i : ℕ) → i < width max → room max ≤ v → max < v
past_max v max i some past = let r : 0 < room max = omega arith in grind (arith, nat_tests)

ones_of_digit : (d : ℕ) → d < 2 → count_ones d ≡ d
ones_of_digit d h = grind (arith, ones_le_self d, zero_from_ones d)

-- the ones below a place are the rows below it
pub count_low : (s k : ℕ) → count_ones (s % 2 ^ k) ≡ rows_below s k
unfolding rows_below
count_low s zero = ap count_ones (let z : s % 2 ^ 0 ≡ 0 = omega arith in z) ∙ ones_of_digit 0 (omega arith)
count_low s (suc k) =
    let one : suc k ≡ 1 + k = omega arith in
    ap (λ j. count_ones (s % 2 ^ j)) one
    ∙ ap count_ones (mod-pow-add s 1 k)
    ∙ ones_cat k (s / 2 ^ k % 2 ^ 1) (s % 2 ^ k) (mod_below s (2 ^ k) (pow_pos k))
    ∙ ap (λ n. count_ones (s / 2 ^ k % 2 ^ 1) + n) (count_low s k)
    ∙ ap (λ n. n + rows_below s k) (ones_of_digit (s / 2 ^ k % 2) (bit_at-lt s k))
    ∙ omega arith

-- the same with the mask that the code makes
pub count_below : (s k : ℕ) → k < 8 → count_ones (bit_and s (1 * 2 ^ k % 256 - 1)) ≡ rows_below s k
count_below s k h = ap (λ m. count_ones (bit_and s (m - 1))) (one_shl k 8 h) ∙ ap count_ones (and_mask s k) ∙ count_low s k

pub rows_below-suc : (s k : ℕ) → rows_below s (suc k) ≡ rows_below s k + bit_at s k
unfolding rows_below
rows_below-suc s k = refl

pub rows_below-zero : (s : ℕ) → rows_below s 0 ≡ 0
unfolding rows_below
rows_below-zero s = refl

rows_below-le : (s k : ℕ) → rows_below s k ≤ k
unfolding rows_below
rows_below-le s zero = omega arith
rows_below-le s (suc k) = omega (arith, rows_below-le s k, bit_at-lt s k)

grows : (s k d : ℕ) → rows_below s k ≤ rows_below s (d + k)
grows s k zero = let e : 0 + k ≡ k = omega arith in omega (arith, ap (rows_below s) e)
grows s k (suc d) = let e : suc d + k ≡ suc (d + k) = omega arith in omega (arith, ap (rows_below s) e, rows_below-suc s (d + k), grows s k d)

-- a supported modifier's row stands below all that come after it
pub row_before : (s k n : ℕ) → bit_at s k ≡ 1 → k < n → rows_below s k + 1 ≤ rows_below s n
row_before s k n one h =
    let e : (n - suc k) + suc k ≡ n = omega arith in
    omega (arith, grows s (suc k) (n - suc k), ap (rows_below s) e, rows_below-suc s k)

-- a word of a supported modifier is among the words
pub place_within : (s k wide a : ℕ) → bit_at s k ≡ 1 → k < 8 → a < wide → rows_below s k * wide + a < rows_below s 8 * wide
place_within s k wide a one h b =
    omega (arith, mul-add-lt (rows_below s k) wide a (rows_below s 8) (omega (arith, row_before s k 8 one h)) b)

-- and its place is small
pub place_fits : (s k wide a : ℕ) → k < 8 → wide ≤ 1024 → a < 1024 → rows_below s k * wide + a < 16384
place_fits s k wide a h w b = omega (arith, mul-le (rows_below s k) wide 8 1024 (omega (arith, rows_below-le s k)) w)

-- one place is of one modifier and one word
pub same_place : (s j k wide a b : ℕ) → bit_at s j ≡ 1 → bit_at s k ≡ 1 → a < wide → b < wide → rows_below s j * wide + a ≡ rows_below s k * wide + b → (j ≡ k) × (a ≡ b)
same_place s j k wide a b oj ok p q e =
    let t = same_from_place (rows_below s j) a (rows_below s k) b wide p q e in
    let rows : rows_below s j ≡ rows_below s k = t.0 in (
      elim (cases_eq j k) [
        | inl same ↦ same
        | inr ne ↦ elim (cases_lt j k) [
          | inl lt ↦ absurd (omega (arith, row_before s j k oj lt))
          | inr le ↦ let lt : k < j = omega arith in absurd (omega (arith, row_before s k j ok lt))
        ]
      ],
      t.1,
    )

-- all ones are all rows
pub count_all : (s : ℕ) → s < 256 → count_ones s ≡ rows_below s 8
count_all s h = let e : s % 2 ^ 8 ≡ s = omega arith in sym (ap count_ones e) ∙ count_low s 8

-- in place each of the eight modifiers has a row
pub has_row : (k : ℕ) → k < 8 → bit_at 255 k ≡ 1
has_row k h = bit_at_ones 8 k h

-- and rows of one word fill the places
pub one_each : (wide : ℕ) → wide ≡ 1 → 8 ≡ rows_below 255 8 * wide
unfolding rows_below
one_each wide e = let all : rows_below 255 8 ≡ 8 = refl in omega (arith, ap (λ n. n * wide) all)

-- in place as many rows stand below a modifier as modifiers
pub rows_all : (k : ℕ) → k ≤ 8 → rows_below 255 k ≡ k
rows_all zero h = rows_below-zero 255
rows_all (suc k) h = omega (arith, rows_below-suc 255 k, rows_all k (omega (arith, h)), has_row k (omega (arith, h)))
