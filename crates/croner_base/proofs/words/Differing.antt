-- Comparing by the first difference.
use Rattle.std.proofs.Common.{◌≡◌, ◌≢◌, ℕ, zero, suc, ◌+◌, ◌-◌, ◌*◌, ◌^◌, ◌<◌, ◌≤◌, List, [], ◌∷◌, length, get_or, bit_or, bit_xor, ap, sym, ◌∙◌, arith, subst, inl, inr, max, w64}
use Rattle.std.specs.declared.cmp.Ordering.{Ordering}
use Rattle.std.specs.declared.cmp.Ordering.TheVariants.{Equal}
use Rattle.std.specs.Cmp.Lexicographic.{slice_cmp}
use Rattle.std.specs.Int.{bit_at, trailing_zeros}
use Rattle.std.specs.Int.Bits.{or_add_and, xor_add_and}
use Rattle.std.specs.Ordering.{nat_cmp, ordering_then}
use Rattle.std.proofs.lemmas.Bool.{cases_eq, cases_lt}
use Rattle.std.proofs.lemmas.Bool.Decides.{nat_tests}
use Rattle.std.proofs.lemmas.Nat.{and_le_l, and_le_r}
use Rattle.std.proofs.lemmas.Nat.Bits.{bit_at_or, bit_at_xor, bit_at-lt, bit_at-zero, bit_at-trailing_zeros, same_from_bits_below}
use Rattle.std.proofs.lemmas.List.{ext_get_or}
use Rattle.croner_base.specs.Private.words.Differences.{IsFirstDifference, ShowsDifferences}
use Rattle.croner_base.specs.Field.{room}
use Rattle.croner_base.specs.Private.words.Marked.{Marked}
use Rattle.croner_base.proofs.words.Sums.{ShowsWord}

-- ---- lists

nat_cmp_same : (x : ℕ) → nat_cmp x x ≡ Equal
nat_cmp_same x = grind (arith, nat_tests)

cmp_apart : (x y : ℕ) (r : Ordering) → x ≢ y → ordering_then (nat_cmp x y) r ≡ nat_cmp x y
cmp_apart x y r ne = grind (arith, nat_tests)

cmp_alike : (x y : ℕ) (r : Ordering) → x ≡ y → ordering_then (nat_cmp x y) r ≡ r
cmp_alike x y r e = grind (arith, nat_tests)

-- the first difference decides
pub cmp_at : (xs ys : List ℕ) (v : ℕ) → v < length xs → v < length ys → ((u : ℕ) → u < v → get_or xs u 0 ≡ get_or ys u 0) → get_or xs v 0 ≢ get_or ys v 0
    → slice_cmp nat_cmp xs ys ≡ nat_cmp (get_or xs v 0) (get_or ys v 0)
cmp_at [] ys v h i same differs = absurd (omega arith)
cmp_at (x ∷ xs) [] v h i same differs = absurd (omega arith)
cmp_at (x ∷ xs) (y ∷ ys) zero h i same differs = cmp_apart x y _ differs
cmp_at (x ∷ xs) (y ∷ ys) (suc v) h i same differs =
    cmp_alike x y _ (same 0 (omega arith)) ∙ cmp_at xs ys v (omega arith) (omega arith) (λ u lt. same (suc u) (omega arith)) differs

-- where there is none, the lengths decide
pub cmp_lengths : (xs ys : List ℕ) → ((u : ℕ) → u < length xs → u < length ys → get_or xs u 0 ≡ get_or ys u 0) → slice_cmp nat_cmp xs ys ≡ nat_cmp (length xs) (length ys)
cmp_lengths [] [] same = sym (nat_cmp_same 0)
cmp_lengths [] (y ∷ ys) same = grind (arith, nat_tests)
cmp_lengths (x ∷ xs) [] same = grind (arith, nat_tests)
cmp_lengths (x ∷ xs) (y ∷ ys) same =
    let more : nat_cmp (length xs) (length ys) ≡ nat_cmp (suc (length xs)) (suc (length ys)) = grind (arith, nat_tests) in
    cmp_alike x y _ (same 0 (omega arith) (omega arith)) ∙ cmp_lengths xs ys (λ u h i. same (suc u) (omega arith) (omega arith)) ∙ more

-- ---- two lists of words

none_differ : (found x y : ℕ) → bit_or found (bit_xor x y) ≡ 0 → (found ≡ 0) × (x ≡ y)
none_differ found x y e = (
  omega (arith, or_add_and found (bit_xor x y), and_le_r found (bit_xor x y)),
  omega (arith, or_add_and found (bit_xor x y), and_le_l found (bit_xor x y), xor_add_and x y, and_le_l x y, and_le_r x y),
)

-- where nothing was found, the first n words are the same
abbrev pub SameUnless : List ℕ → List ℕ → ℕ → ℕ → Type 0
SameUnless xs ys n found = found ≡ 0 → (i : ℕ) → i < n → get_or xs i 0 ≡ get_or ys i 0

-- one more pair of words
pub same_one_more : (xs ys : List ℕ) (n found : ℕ) → SameUnless xs ys n found → SameUnless xs ys (n + 1) (bit_or found (bit_xor (get_or xs n 0) (get_or ys n 0)))
same_one_more xs ys n found same none i h =
    let both = none_differ found (get_or xs n 0) (get_or ys n 0) none in
    elim (cases_eq i n) [
      | inl e ↦ subst (λ j. get_or xs j 0 ≡ get_or ys j 0) (sym e) both.1
      | inr ne ↦ same both.0 i (omega arith)
    ]

-- where nothing was found in all words, the lists are the same
pub same_lists : (xs ys : List ℕ) (n found : ℕ) → length xs ≡ length ys → length xs ≤ n → SameUnless xs ys n found → found ≡ 0 → xs ≡ ys
same_lists xs ys n found long all same none = ext_get_or 0 xs ys long (λ i h. same none i (omega arith))

-- ---- one word: the first k modifiers have been looked at

-- the value is in both
abbrev pub IsShared : Marked → Marked → ℕ → Type 0
IsShared f g v = (v < room f.max) × (v < room g.max)

pub record ShowsBelow (f g : Marked) (i found k : ℕ) : Type 0 where
  pub same : (b j : ℕ) → b < 64 → j < k → IsShared f g (i * 64 + b) → bit_at found b ≡ 0 → bit_at (get_or f.marks (i * 64 + b) 0) j ≡ bit_at (get_or g.marks (i * 64 + b) 0) j
  pub differs : (b : ℕ) → b < 64 → IsShared f g (i * 64 + b) → bit_at found b ≡ 1 → get_or f.marks (i * 64 + b) 0 ≢ get_or g.marks (i * 64 + b) 0

-- one more modifier
pub shows_more : (f g : Marked) (i found k x y : ℕ) → ShowsBelow f g i found k → ShowsWord f k i x → ShowsWord g k i y → ShowsBelow f g i (bit_or found (bit_xor x y)) (k + 1)
shows_more f g i found k x y shows wx wy =
    let bit = λ (b : ℕ). bit_at_or found (bit_xor x y) b ∙ ap (max (bit_at found b)) (bit_at_xor x y b) in
    record {
      same = λ b j h lt both z. elim (cases_eq j k) [
        | inr ne ↦ shows.same b j h (omega arith) both (omega (arith, bit b))
        | inl e ↦ subst (λ n. bit_at (get_or f.marks (i * 64 + b) 0) n ≡ bit_at (get_or g.marks (i * 64 + b) 0) n) (sym e)
            (omega (arith, bit b, wx b h both.0, wy b h both.1, bit_at-lt x b, bit_at-lt y b))
      ];
      differs = λ b h both one same. elim (cases_eq (bit_at found b) 1) [
        | inl old ↦ shows.differs b h both old same
        | inr ne ↦ absurd (omega (arith, bit b, wx b h both.0, wy b h both.1, ap (λ n. bit_at n k) same, bit_at-lt found b, bit_at-lt x b))
      ];
    }

-- all modifiers
pub shows_all : (f g : Marked) (i found k : ℕ) → k ≡ 8 → ((v : ℕ) → get_or f.marks v 0 < 256) → ((v : ℕ) → get_or g.marks v 0 < 256) → ShowsBelow f g i found k → ShowsDifferences f g i found
shows_all f g i found k e sf sg shows = record {
  same = λ b h hf hg z. same_from_bits_below 8 _ _ (sf (i * 64 + b)) (sg (i * 64 + b)) (λ j low. shows.same b j h (omega arith) (hf, hg) z);
  differs = λ b h hf hg one. shows.differs b h (hf, hg) one;
}

-- ---- word by word

abbrev pub SameBefore : Marked → Marked → ℕ → Type 0
SameBefore f g n = (v : ℕ) → v < n → v < room f.max → v < room g.max → get_or f.marks v 0 ≡ get_or g.marks v 0

-- the values whose bits come before a place where a word shows a difference
same_to : (f g : Marked) (i found n : ℕ) → n ≤ 64 → SameBefore f g (i * 64) → ShowsDifferences f g i found → ((b : ℕ) → b < n → bit_at found b ≡ 0) → SameBefore f g (i * 64 + n)
same_to f g i found n few before shows none v lt hf hg = elim (cases_lt v (i * 64)) [
  | inl low ↦ before v low hf hg
  | inr le ↦
      let e : i * 64 + (v - i * 64) ≡ v = omega arith in
      subst (λ n. get_or f.marks n 0 ≡ get_or g.marks n 0) e (shows.same (v - i * 64) (omega arith) (omega arith) (omega arith) (none (v - i * 64) (omega arith)))
]

-- a word with no difference
pub same_more : (f g : Marked) (i found : ℕ) → SameBefore f g (i * 64) → ShowsDifferences f g i found → found ≡ 0 → SameBefore f g ((i + 1) * 64)
same_more f g i found before shows none v lt hf hg =
    same_to f g i found 64 (omega arith) before shows (λ b h. ap (λ n. bit_at n b) none ∙ bit_at-zero b) v (omega arith) hf hg

-- before the least difference of a word there is none
pub same_first : (f g : Marked) (i found : ℕ) → SameBefore f g (i * 64) → ShowsDifferences f g i found → 0 < found → found < 2 ^ 64 → SameBefore f g (i * 64 + trailing_zeros w64 found)
same_first f g i found before shows some fits =
    let t = bit_at-trailing_zeros w64 found some fits in
    same_to f g i found (trailing_zeros w64 found) (omega (arith, t.0)) before shows t.2

-- and it is the first difference
pub first_differs : (f g : Marked) (i found : ℕ) → SameBefore f g (i * 64) → ShowsDifferences f g i found → 0 < found → found < 2 ^ 64
    → i * 64 + trailing_zeros w64 found < room f.max → i * 64 + trailing_zeros w64 found < room g.max → IsFirstDifference f g (i * 64 + trailing_zeros w64 found)
first_differs f g i found before shows some fits hf hg =
    let t = bit_at-trailing_zeros w64 found some fits in
    record {
      in_first = hf;
      in_second = hg;
      differs = shows.differs (trailing_zeros w64 found) t.0 hf hg t.1;
      before = λ u lt. same_first f g i found before shows some fits u lt (omega arith) (omega arith);
    }
