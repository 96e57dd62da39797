-- Numbers by their bits, and the list of sums: its length, and its elements by the bits of the words.
use Rattle.std.proofs.Common.{◌≡◌, ◌≢◌, ℕ, zero, suc, ◌+◌, ◌-◌, ◌*◌, ◌/◌, ◌%◌, ◌^◌, ◌<◌, ◌≤◌, List, length, get_or, bit_and, refl, ap, sym, ◌∙◌, arith, inl, inr, replicate}
use Rattle.std.specs.Int.{bit_at}
use Rattle.std.proofs.lemmas.Bool.{cases_eq, cases_lt}
use Rattle.std.proofs.lemmas.List.{ext_get_or, get_or_past, length-replicate}
use Rattle.std.proofs.lemmas.List.FromFn.{length-map-range_with_len, get_or-map-range_with_len}
use Rattle.std.proofs.lemmas.Nat.{mul-le}
use Rattle.std.proofs.lemmas.Nat.Bits.{shr_and_one, bit_at-lt, bit_at_lowest, bit_at-zero, bit_at_cat_low, bit_at_cat_high, same_from_bits_below}
use Rattle.std.proofs.Math.Pow.{pow_mono}
use native.Mathlib.Nat.{pow-suc}
use Rattle.croner_base.specs.Private.words.Kept.{NonePast}
use Rattle.croner_base.specs.Private.words.Marked.{Marked}
use Rattle.croner_base.specs.Field.{room}
use Rattle.croner_base.specs.Private.words.Rows.{width, rows_below, mark_at, number_of, sum_below, sums_of, marks_in}

-- ---- numbers of bits

abbrev pub AreBits : (ℕ → ℕ) → Type 0
AreBits bit = (i : ℕ) → bit i < 2

-- no bit
pub number_of_none : (bit : ℕ → ℕ) → number_of bit 0 ≡ 0
unfolding number_of
number_of_none bit = refl

-- one more bit
number_of-more : (bit : ℕ → ℕ) (n : ℕ) → number_of bit (n + 1) ≡ bit n * 2 ^ n + number_of bit n
unfolding number_of
number_of-more bit n = let e : n + 1 ≡ suc n = omega arith in ap (number_of bit) e ∙ omega arith

digit-le : (m p : ℕ) → m < 2 → m * p ≤ p
digit-le m p h = omega (arith, mul-le m p 1 p (omega arith) (omega arith))

-- n bits are below 2 ^ n
pub number_of-lt : (bit : ℕ → ℕ) (n : ℕ) → AreBits bit → number_of bit n < 2 ^ n
unfolding number_of
number_of-lt bit zero are = omega arith
number_of-lt bit (suc n) are = omega (arith, pow-suc 2 n, number_of-lt bit n are, digit-le (bit n) (2 ^ n) (are n))

-- the bits of that number
pub number_of-bit : (bit : ℕ → ℕ) (n i : ℕ) → AreBits bit → i < n → bit_at (number_of bit n) i ≡ bit i
unfolding number_of
number_of-bit bit zero i are h = absurd (omega arith)
number_of-bit bit (suc n) i are h =
    let turned : number_of bit n + bit n * 2 ^ n ≡ bit n * 2 ^ n + number_of bit n = omega arith in
    ap (λ x. bit_at x i) turned ∙ elim (cases_eq i n) [
      | inl e ↦
          let z : i - n ≡ 0 = omega arith in
          bit_at_cat_high (bit n) n (number_of bit n) i (number_of-lt bit n are) (omega arith) ∙ ap (bit_at (bit n)) z ∙ omega (arith, bit_at_lowest (bit n), are n) ∙ ap bit (sym e)
      | inr ne ↦ bit_at_cat_low (bit n) n (number_of bit n) i (omega arith) ∙ number_of-bit bit n i are (omega arith)
    ]

-- ---- marks by the bits of the words

-- the mark of a supported modifier is a bit of its row
pub mark_one : (words : List ℕ) (wide s k v p : ℕ) → bit_at s k ≡ 1 → p ≡ rows_below s k * wide + v / 64 → bit_at (get_or words p 0) (v % 64) ≡ mark_at words wide s k v
unfolding mark_at
mark_one words wide s k v p one e = rw (e, one) (omega arith)

-- one that is not supported has no mark
pub mark_none : (words : List ℕ) (wide s k v : ℕ) → bit_at s k ≢ 1 → mark_at words wide s k v ≡ 0
unfolding mark_at
mark_none words wide s k v off = let z : bit_at s k ≡ 0 = omega (arith, bit_at-lt s k) in rw z (omega arith)

-- a mark is a bit
mark_at-lt : (words : List ℕ) (wide s k v : ℕ) → mark_at words wide s k v < 2
mark_at-lt words wide s k v = elim (cases_eq (bit_at s k) 1) [
  | inl one ↦ omega (arith, mark_one words wide s k v (rows_below s k * wide + v / 64) one refl, bit_at-lt (get_or words (rows_below s k * wide + v / 64) 0) (v % 64))
  | inr off ↦ omega (arith, mark_none words wide s k v off)
]

-- a bit of a word of a row that is there
pub word_one : (words : List ℕ) (wide s k i b p : ℕ) → bit_and (s / 2 ^ k) 1 ≡ 1 → b < 64 → p ≡ rows_below s k * wide + i
    → bit_at (get_or words p 0) b ≡ mark_at words wide s k (i * 64 + b)
word_one words wide s k i b p is h e =
    let low : b ≡ (i * 64 + b) % 64 = omega arith in
    ap (bit_at (get_or words p 0)) low ∙ mark_one words wide s k (i * 64 + b) p (sym (shr_and_one s k) ∙ is) (omega arith)

-- ---- one sum, modifier by modifier

-- a digit that is shifted to its place
pub sum_more : (words : List ℕ) (wide s k v i word sum : ℕ) → k < 8 → i ≡ v / 64 → ((b : ℕ) → b < 64 → bit_at word b ≡ mark_at words wide s k (i * 64 + b))
    → sum ≡ sum_below words wide s k v → (sum + bit_and (word / 2 ^ (v % 64)) 1 * 2 ^ k % 256 ≡ sum_below words wide s (k + 1) v) × (sum + bit_and (word / 2 ^ (v % 64)) 1 * 2 ^ k % 256 < 256)
sum_more words wide s k v i word sum h place shows is =
    let at : i * 64 + v % 64 ≡ v = omega (arith, place) in
    let e : bit_and (word / 2 ^ (v % 64)) 1 ≡ mark_at words wide s k v = shr_and_one word (v % 64) ∙ shows (v % 64) (omega arith) ∙ ap (mark_at words wide s k) at in
    let twice : 2 ^ suc k ≤ 2 ^ 8 = pow_mono {j = 8} (omega arith) in
    let product = ap (λ m. m * 2 ^ k) e in
    let low = digit-le (mark_at words wide s k v) (2 ^ k) (mark_at-lt words wide s k v) in
    let small = number_of-lt (λ j. mark_at words wide s j v) k (λ j. mark_at-lt words wide s j v) in
    (omega (arith, is, twice, number_of-more (λ j. mark_at words wide s j v) k, product, low, pow-suc 2 k), omega (arith, is, twice, product, low, small, pow-suc 2 k))

-- ---- the list

-- there is a sum for each value
pub sums_long : (words : List ℕ) (max supported : ℕ) → length (sums_of words max supported) ≡ room max
unfolding sums_of
sums_long words max supported = length-map-range_with_len (sum_below words (width max) supported 8) 0 (room max)

-- and it is the sum of its marks
pub sums_at : (words : List ℕ) (max supported v : ℕ) → v < room max → get_or (sums_of words max supported) v 0 ≡ sum_below words (width max) supported 8 v
unfolding sums_of
sums_at words max supported v h = get_or-map-range_with_len (sum_below words (width max) supported 8) 0 (room max) v v 0 h (omega arith)

-- the bits of one sum are the bits of the words
pub sums_bit : (words : List ℕ) (max supported v k : ℕ) → v < room max → k < 8 → bit_at (get_or (sums_of words max supported) v 0) k ≡ mark_at words (width max) supported k v
sums_bit words max supported v k h low =
    ap (λ x. bit_at x k) (sums_at words max supported v h) ∙ number_of-bit (λ j. mark_at words (width max) supported j v) 8 k (λ j. mark_at-lt words (width max) supported j v) low

-- word i has the marks with modifier k
abbrev pub ShowsWord : Marked → ℕ → ℕ → ℕ → Type 0
ShowsWord f k i word = (b : ℕ) → b < 64 → i * 64 + b < room f.max → bit_at word b ≡ bit_at (get_or f.marks (i * 64 + b) 0) k

-- a word with the marks of a modifier shows the bits of the sums
pub word_shows : (words : List ℕ) (max rows k i word : ℕ) → k < 8 → ((b : ℕ) → b < 64 → bit_at word b ≡ mark_at words (width max) rows k (i * 64 + b)) → ShowsWord (marks_in words max rows) k i word
word_shows words max rows k i word low bits b h here = bits b h ∙ sym (sums_bit words max rows (i * 64 + b) k here low)

-- a sum past the list is none
pub sums_past : (words : List ℕ) (max s v : ℕ) → room max ≤ v → get_or (sums_of words max s) v 0 ≡ 0
sums_past words max s v h = get_or_past (sums_of words max s) v 0 (omega (arith, sums_long words max s))

-- each sum is a byte
pub sums_small : (words : List ℕ) (max s v : ℕ) → get_or (sums_of words max s) v 0 < 256
sums_small words max s v = elim (cases_lt v (room max)) [
  | inl lt ↦ omega (arith, sums_at words max s v lt, number_of-lt (λ j. mark_at words (width max) s j v) 8 (λ j. mark_at-lt words (width max) s j v))
  | inr le ↦ omega (arith, sums_past words max s v le)
]

-- ---- no word has a bit, and no value a mark

abbrev pub blank : ℕ → List ℕ
blank n = replicate n 0

none_at : (n i : ℕ) → get_or (blank n) i 0 ≡ 0
none_at zero i = refl
none_at (suc n) zero = refl
none_at (suc n) (suc i) = none_at n i

-- where no word has a bit, each sum is 0
pub sums_none : (n max s : ℕ) → sums_of (blank n) max s ≡ blank (room max)
sums_none n max s = ext_get_or 0 _ _ (sums_long (blank n) max s ∙ sym (length-replicate (room max) 0)) (λ v lt.
    let here : v < room max = omega (arith, lt, sums_long (blank n) max s) in
    same_from_bits_below 8 _ _ (sums_small (blank n) max s v) (omega (arith, none_at (room max) v)) (λ k low.
    sums_bit (blank n) max s v k here low ∙ none_marked v k ∙ sym (ap (λ x. bit_at x k) (none_at (room max) v) ∙ bit_at-zero k)))
  where
    none_marked : (v k : ℕ) → mark_at (blank n) (width max) s k v ≡ 0
    none_marked v k = elim (cases_eq (bit_at s k) 1) [
      | inr off ↦ mark_none (blank n) (width max) s k v off
      | inl one ↦ sym (mark_one (blank n) (width max) s k v _ one refl) ∙ ap (λ w. bit_at w (v % 64)) (none_at n _) ∙ bit_at-zero (v % 64)
    ]

-- and none has a bit past the maximum
pub none_past_blank : (n max : ℕ) → NonePast (blank n) max
none_past_blank n max p b h past = ap (λ w. bit_at w b) (none_at n p) ∙ bit_at-zero b

-- marks of these sums
abbrev pub with_sums : ℕ → ℕ → List ℕ → Marked
with_sums max s xs = record { max = max; supported = s; marks = xs }
