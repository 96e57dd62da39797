-- The sets of modifiers as binary numbers, one write a number.
use Rattle.std.proofs.Common.{◌≡◌, ℕ, zero, suc, ◌+◌, ◌*◌, ◌^◌, ◌<◌, cond, eqb, Bool, List, [], ◌∷◌, ◌++◌, length, get_or, bit_and, refl, ap, sym, ◌∙◌, arith, inl, inr}
use Rattle.std.specs.Hash as fed
use Rattle.std.specs.Int.{bit_at}
use Rattle.std.specs.List.{flat_map, range_with_len}
use Rattle.std.proofs.lemmas.Bool.{cases_lt}
use Rattle.std.proofs.lemmas.List.{append-nil, get_or_past, map-id}
use Rattle.std.proofs.lemmas.List.FromFn.{map-range_with_len_more}
use Rattle.std.proofs.lemmas.Grind.{flat_map-append}
use Rattle.std.proofs.lemmas.Nat.{and_le_l}
use Rattle.std.proofs.lemmas.Nat.Bits.{bit_at_and, bit_at-lt, bit_at-zero, same_from_bits_below}
use Rattle.croner_base.specs.Field.{room}
use Rattle.croner_base.specs.Private.words.Marked.{Marked}
use Rattle.croner_base.specs.Private.words.Masks.{MasksTo}
use Rattle.croner_base.specs.Private.words.Rows.{width, number_of}
use Rattle.croner_base.specs.Written.{digits_of, set_writes, sets_writes}
use Rattle.croner_base.proofs.words.WordSearch.{masked_off}
use Rattle.croner_base.proofs.words.RowPlaces.{past_max, value_within}
use Rattle.croner_base.proofs.words.Sums.{AreBits, ShowsWord, number_of-lt, number_of-bit}

-- ---- the digits

digits_of-number : (marks : List ℕ) (k first n : ℕ) → digits_of marks k first n ≡ number_of (λ b. bit_at (get_or marks (first + b) 0) k) n
unfolding digits_of number_of
digits_of-number marks k first zero = refl
digits_of-number marks k first (suc n) = ap (λ d. d + bit_at (get_or marks (first + n) 0) k * 2 ^ n) (digits_of-number marks k first n)

-- a word without the bits past the maximum
pub masked_digits : (f : Marked) (k i word mask : ℕ) → length f.marks ≡ room f.max → i < width f.max → word < 2 ^ 64
    → ShowsWord f k i word → MasksTo mask f.max i
    → bit_and word mask ≡ digits_of f.marks k (i * 64) 64
masked_digits f k i word mask long within fits shows masks =
    let bit : ℕ → ℕ = λ b. bit_at (get_or f.marks (i * 64 + b) 0) k in
    let are : AreBits bit = λ b. bit_at-lt (get_or f.marks (i * 64 + b) 0) k in
    same_from_bits_below 64 _ _ (omega (arith, and_le_l word mask)) (number_of-lt bit 64 are) (λ b h. bit_at_and word mask b ∙ elim (cases_lt (i * 64 + b) (room f.max)) [
      | inl here ↦ omega (arith, shows b h here, masks.on b h (value_within (i * 64 + b) f.max here), bit_at-lt word b, number_of-bit bit 64 b are h)
      | inr past ↦ omega (
        arith,
        masked_off mask i b _ masks h (λ below. absurd (omega (arith, past_max (i * 64 + b) f.max i within past))),
        number_of-bit bit 64 b are h,
        ap (λ n. bit_at n k) (get_or_past f.marks (i * 64 + b) 0 (omega (arith, long))),
        bit_at-zero k,
      )
    ]) ∙ sym (digits_of-number f.marks k (i * 64) 64)

-- ---- one write after another

from_zero : (F : ℕ → List (List ℕ)) (n : ℕ) → flat_map F (range_with_len 0 n) ++ F n ≡ flat_map F (range_with_len 0 (n + 1))
from_zero F n =
    ap (λ l. flat_map F (range_with_len 0 n) ++ l) (sym (append-nil (F n))) ∙ sym (flat_map-append F (range_with_len 0 n) (n ∷ []))
    ∙ sym (ap (flat_map F) (simp map-id at (map-range_with_len_more (λ x. x) 0 n n (omega arith))))

-- one more word of a set
pub set_writes-more : (marks : List ℕ) (i k : ℕ) → set_writes marks i k ++ fed.u64 (digits_of marks k (i * 64) 64) ≡ set_writes marks (i + 1) k
unfolding set_writes
set_writes-more marks i k = from_zero (λ j. fed.u64 (digits_of marks k (j * 64) 64)) i

-- the sets of the first k modifiers that are supported
abbrev pub sets_below : List ℕ → ℕ → ℕ → ℕ → List (List ℕ)
sets_below marks groups supported k = flat_map (λ j. cond (eqb (bit_at supported j) 1) (set_writes marks groups j) []) (range_with_len 0 k)

-- one more modifier, with its set where it is supported
pub sets_below-more : (marks : List ℕ) (groups supported k : ℕ) (is : Bool) → eqb (bit_at supported k) 1 ≡ is
    → sets_below marks groups supported k ++ cond is (set_writes marks groups k) [] ≡ sets_below marks groups supported (k + 1)
sets_below-more marks groups supported k is e =
    ap (λ t. flat_map (λ j. cond (eqb (bit_at supported j) 1) (set_writes marks groups j) []) (range_with_len 0 k) ++ cond t (set_writes marks groups k) []) (sym e)
    ∙ from_zero (λ j. cond (eqb (bit_at supported j) 1) (set_writes marks groups j) []) k

-- the first eight modifiers are all
pub sets_below-all : (marks : List ℕ) (max supported k : ℕ) → k ≡ 8 → sets_below marks (width max) supported k ≡ sets_writes marks max supported
unfolding sets_writes
sets_below-all marks max supported k e = ap (λ n. flat_map (λ j. cond (eqb (bit_at supported j) 1) (set_writes marks (width max) j) []) (range_with_len 0 n)) e
