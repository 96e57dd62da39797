-- Counting and listing by the ones of words.
use Rattle.std.proofs.Common.{◌≡◌, ◌≢◌, ℕ, zero, suc, ◌+◌, ◌-◌, ◌*◌, ◌/◌, ◌%◌, ◌^◌, ◌<◌, ◌≤◌, Bool, true, eqb, cond, not, ◌&&◌, ◌||◌, leb, ltb, List, [], ◌∷◌, ◌++◌, append_assoc, length, get_or, bit_and, bit_or, count_ones, refl, ap, sym, ◌∙◌, arith, subst, ◌⊎◌, inl, inr, max, min}
use Rattle.std.specs.Int.{bit_at}
use Rattle.std.specs.Int.Bits.{or_add_and}
use Rattle.std.specs.List.{filter, list_any, range_with_len}
use Rattle.std.proofs.lemmas.Bool.{cases_lt, cases_Bool}
use Rattle.std.proofs.lemmas.List.{append-nil, length-append, map-id}
use Rattle.std.proofs.lemmas.List.FromFn.{filter_of_map_range_with_len_more}
use Rattle.std.proofs.lemmas.Bool.Decides.{nat_tests}
use Rattle.std.proofs.lemmas.Nat.{and_le_l, and_le_r}
use Rattle.std.proofs.lemmas.Nat.Bits.{shr_and_one, bit_at_and, bit_at_or, bit_at-lt, same_from_bits}
use Rattle.croner_base.specs.Private.words.Counts.{ShowsMarked, ShowsFrom, is_from, values_in, marked_from}
use Rattle.croner_base.specs.Field.{room, has_any}
use Rattle.croner_base.specs.Private.words.Marked.{Marked, is_set}
use Rattle.croner_base.specs.Private.words.Masks.{MasksFrom, MasksTo}
use Rattle.croner_base.specs.Private.words.Rows.{rows_below, width, mark_at, sums_of, marks_in}
use Rattle.croner_base.proofs.fields.CountedValues.{count_from, any_counted}
use Rattle.croner_base.proofs.fields.ModifierSets.{has_bit}
use Rattle.croner_base.proofs.words.ModifiersInTurn.{low_none, low_more}
use Rattle.croner_base.proofs.words.WordSearch.{masked_off}
use Rattle.croner_base.proofs.words.Sums.{word_one, sums_past}
use Rattle.croner_base.proofs.words.RowPlaces.{has_row, rows_all, count_low, rows_below-suc, rows_below-zero, past_max, value_within}

-- ---- one word: the first k modifiers have been looked at

-- a modifier that is not asked for changes nothing
pub any_skip : (f : Marked) (bits i found k : ℕ) → bit_and (bits / 2 ^ k) 1 ≢ 1 → ShowsMarked f (bits % 2 ^ k) i found → ShowsMarked f (bits % 2 ^ (k + 1)) i found
any_skip f bits i found k off shows = subst (λ n. ShowsMarked f n i found) (sym (low_none bits k off)) shows

either_one : (x y : ℕ) → x < 2 → y < 2 → eqb (max x y) 1 ≡ (eqb x 1 || not (eqb y 0))
either_one x y h i = grind (arith, nat_tests)

has_any-more : (x bits k : ℕ) → bit_and (bits / 2 ^ k) 1 ≡ 1 → has_any x (bits % 2 ^ (k + 1)) ≡ (has_any x (bits % 2 ^ k) || has_any x (2 ^ k))
has_any-more x bits k one =
    ap (λ n. not (eqb n 0)) (same_from_bits _ (bit_or (bit_and x (bits % 2 ^ k)) (bit_and x (2 ^ k))) (λ i.
    omega (arith, bit_at_and x (bits % 2 ^ (k + 1)) i, low_more bits k i one, bit_at_or (bit_and x (bits % 2 ^ k)) (bit_and x (2 ^ k)) i, bit_at_and x (bits % 2 ^ k) i, bit_at_and x (2 ^ k) i)))
    ∙ either_some (bit_and x (bits % 2 ^ k)) (bit_and x (2 ^ k))
  where
    either_some : (a b : ℕ) → not (eqb (bit_or a b) 0) ≡ (not (eqb a 0) || not (eqb b 0))
    either_some a b = grind (arith, nat_tests, or_add_and a b, and_le_l a b, and_le_r a b)

-- and the row of one that is adds its values
pub any_more : (f : Marked) (bits i found k word : ℕ) → bit_and (bits / 2 ^ k) 1 ≡ 1 → ShowsMarked f (bits % 2 ^ k) i found
    → ((b : ℕ) → b < 64 → i * 64 + b < room f.max → bit_at word b ≡ bit_at (get_or f.marks (i * 64 + b) 0) k) → ShowsMarked f (bits % 2 ^ (k + 1)) i (bit_or found word)
any_more f bits i found k word one shows is b h here =
    ap (λ x. eqb x 1) (bit_at_or found word b) ∙ either_one _ _ (bit_at-lt found b) (bit_at-lt word b)
    ∙ ap (λ s. s || not (eqb (bit_at word b) 0)) (shows b h here)
    ∙ ap (λ s. has_any (get_or f.marks (i * 64 + b) 0) (bits % 2 ^ k) || s) (ap (λ n. not (eqb n 0)) (is b h here) ∙ sym (has_bit (get_or f.marks (i * 64 + b) 0) k))
    ∙ sym (has_any-more (get_or f.marks (i * 64 + b) 0) bits k one)

-- masked
pub shows_from : (f : Marked) (bits first i word from to : ℕ) → ShowsMarked f bits i word → MasksFrom from first i → MasksTo to f.max i → i < width f.max
    → ShowsFrom f bits first i (bit_and (bit_and word from) to)
shows_from f bits first i word from to marked masks_from masks_to within b h =
    let v : ℕ = i * 64 + b in
    let bit = bit_at_and (bit_and word from) to b ∙ ap (λ x. min x (bit_at to b)) (bit_at_and word from b) in
    elim (cases_lt (i * 64 + b) first) [
      | inl low ↦ outside (i * 64 + b) (bit_at (bit_and (bit_and word from) to) b) (omega (arith, bit, masked_off from i b _ masks_from h (λ above. absurd (omega arith)))) (inl low)
      | inr above ↦ elim (cases_lt (i * 64 + b) (room f.max)) [
        | inr le ↦ outside (i * 64 + b) (bit_at (bit_and (bit_and word from) to) b) (omega (arith, bit, masked_off to i b _ masks_to h (λ below. absurd (omega (arith, past_max (i * 64 + b) f.max i within le))))) (inr le)
        | inl here ↦
            let on : bit_at (bit_and (bit_and word from) to) b ≡ bit_at word b = omega (arith, bit, masks_from.on b h above, masks_to.on b h (value_within (i * 64 + b) f.max here), bit_at-lt word b) in
            let both : (leb first (i * 64 + b) && ltb (i * 64 + b) (room f.max)) ≡ true = grind (arith, nat_tests) in
            ap (λ n. eqb n 1) on ∙ marked b h here ∙ ap (λ t. t && is_set bits f (i * 64 + b)) (sym both)
      ]
    ]
  where
    outside : (v n : ℕ) → n ≡ 0 → (v < first) ⊎ (room f.max ≤ v) → eqb n 1 ≡ is_from first bits f v
    outside v n z (inl low) = grind (arith, nat_tests)
    outside v n z (inr high) = grind (arith, nat_tests)

-- ---- the values of words in turn

filter_more : (p : ℕ → Bool) (a n v : ℕ) → a + n ≡ v → filter p (range_with_len a (suc n)) ≡ filter p (range_with_len a n) ++ cond (p v) (v ∷ []) []
filter_more p a n v e =
    let s : suc n ≡ n + 1 = omega arith in
    ap (λ m. filter p (range_with_len a m)) s ∙ simp map-id at (filter_of_map_range_with_len_more p (λ x. x) a n v e)

-- the values that pass from the first on, below n and r
abbrev pub values_to : (ℕ → Bool) → ℕ → ℕ → ℕ → List ℕ
values_to p first r n = filter p (range_with_len first (min n r - first))

to_more : (p : ℕ → Bool) (first r n : ℕ) → values_to p first r (suc n) ≡ values_to p first r n ++ cond ((leb first n && ltb n r) && p n) (n ∷ []) []
to_more p first r n = elim (cases_Bool (leb first n && ltb n r)) [
  | inr miss ↦
      let e : min (suc n) r - first ≡ min n r - first = grind (arith, nat_tests) in
      rw miss (ap (λ k. filter p (range_with_len first k)) e ∙ sym (append-nil _))
  | inl hit ↦
      let e : min (suc n) r - first ≡ suc (min n r - first) = grind (arith, nat_tests) in
      let at : first + (min n r - first) ≡ n = grind (arith, nat_tests) in
      rw hit (ap (λ k. filter p (range_with_len first k)) e ∙ filter_more p first (min n r - first) n at)
]

-- the values whose bits are among the first n of the word
abbrev pub values_below : ℕ → ℕ → ℕ → List ℕ
values_below word i n = filter (λ v. eqb (bit_at word (v - i * 64)) 1) (range_with_len (i * 64) n)

-- the first 64 bits are all
pub values_all : (word i n : ℕ) → n ≡ 64 → values_below word i n ≡ values_in word i
unfolding values_in
values_all word i n e = ap (values_below word i) e

below_more : (word i b : ℕ) → values_below word i (suc b) ≡ values_below word i b ++ cond (eqb (bit_at word b) 1) ((i * 64 + b) ∷ []) []
below_more word i b =
    let low : (i * 64 + b) - i * 64 ≡ b = omega arith in
    filter_more (λ v. eqb (bit_at word (v - i * 64)) 1) (i * 64) b (i * 64 + b) refl ∙ ap (λ x. values_below word i b ++ cond (eqb (bit_at word x) 1) ((i * 64 + b) ∷ []) []) low

-- one more bit adds its value or none
pub values_more : (word i b : ℕ) (old now more : List ℕ) (hit : Bool) → eqb (bit_and (word / 2 ^ b) 1) 1 ≡ hit
    → now ≡ old ++ values_below word i b → more ≡ now ++ cond hit ((i * 64 + b) ∷ []) [] → more ≡ old ++ values_below word i (b + 1)
values_more word i b old now more hit test done is =
    let e : suc b ≡ b + 1 = omega arith in
    is ∙ ap (λ l. l ++ cond hit ((i * 64 + b) ∷ []) []) done ∙ append_assoc old (values_below word i b) (cond hit ((i * 64 + b) ∷ []) [])
    ∙ ap (λ l. old ++ l) (ap (λ t. values_below word i b ++ cond t ((i * 64 + b) ∷ []) []) (sym test ∙ ap (λ n. eqb n 1) (shr_and_one word b))
    ∙ sym (below_more word i b) ∙ ap (values_below word i) e)

-- a word has as many values as ones
ones_below : (word i d : ℕ) → length (values_below word i d) ≡ rows_below word d
ones_below word i zero = sym (rows_below-zero word)
ones_below word i (suc d) =
    ap length (below_more word i d) ∙ length-append (values_below word i d) _
    ∙ omega (arith, ones_below word i d, rows_below-suc word d, one (bit_at word d) (i * 64 + d) (bit_at-lt word d))
  where
    one : (n v : ℕ) → n < 2 → length (cond (eqb n 1) (v ∷ []) []) ≡ n
    one zero v h = refl
    one (suc zero) v h = refl
    one (suc (suc n)) v h = absurd (omega arith)

-- the values of a word are the next
list_word : (f : Marked) (bits first i word d : ℕ) → d ≤ 64 → ShowsFrom f bits first i word
    → values_to (is_set bits f) first (room f.max) (i * 64 + d) ≡ values_to (is_set bits f) first (room f.max) (i * 64) ++ values_below word i d
list_word f bits first i word zero h shows =
    let e : i * 64 + 0 ≡ i * 64 = omega arith in
    ap (values_to (is_set bits f) first (room f.max)) e ∙ sym (append-nil _)
list_word f bits first i word (suc d) h shows =
    let old : List ℕ = values_to (is_set bits f) first (room f.max) (i * 64) in
    let next : Bool → List ℕ = λ t. cond t ((i * 64 + d) ∷ []) [] in
    let e : i * 64 + suc d ≡ suc (i * 64 + d) = omega arith in
    ap (values_to (is_set bits f) first (room f.max)) e ∙ to_more (is_set bits f) first (room f.max) (i * 64 + d)
    ∙ ap (λ l. l ++ next (is_from first bits f (i * 64 + d))) (list_word f bits first i word d (omega arith) shows)
    ∙ append_assoc old (values_below word i d) (next (is_from first bits f (i * 64 + d)))
    ∙ ap (λ l. old ++ l) (ap (λ t. values_below word i d ++ next t) (sym (shows d (omega arith))) ∙ sym (below_more word i d))

-- the values of one more word come next
pub list_step : (f : Marked) (bits first i word : ℕ) → ShowsFrom f bits first i word
    → values_to (is_set bits f) first (room f.max) ((i + 1) * 64) ≡ values_to (is_set bits f) first (room f.max) (i * 64) ++ values_in word i
list_step f bits first i word shows = one_word 64 refl
  where
    one_word : (n : ℕ) → n ≡ 64 → values_to (is_set bits f) first (room f.max) ((i + 1) * 64) ≡ values_to (is_set bits f) first (room f.max) (i * 64) ++ values_in word i
    one_word n e =
        let to : (i + 1) * 64 ≡ i * 64 + n = omega arith in
        ap (values_to (is_set bits f) first (room f.max)) to ∙ list_word f bits first i word n (omega arith) shows
        ∙ ap (λ l. values_to (is_set bits f) first (room f.max) (i * 64) ++ l) (values_all word i n e)

-- and their number is that of its ones
pub count_step : (f : Marked) (bits first i word : ℕ) → ShowsFrom f bits first i word → word < 2 ^ 64
    → length (values_to (is_set bits f) first (room f.max) ((i + 1) * 64)) ≡ length (values_to (is_set bits f) first (room f.max) (i * 64)) + count_ones word
count_step f bits first i word shows fits =
    ap length (list_step f bits first i word shows) ∙ length-append _ (values_in word i)
    ∙ ap (λ n. length (values_to (is_set bits f) first (room f.max) (i * 64)) + n) (ones_in_word 64 refl)
  where
    ones_in_word : (n : ℕ) → n ≡ 64 → length (values_in word i) ≡ count_ones word
    ones_in_word n e =
        let all : word % 2 ^ n ≡ word = ap (λ k. word % 2 ^ k) e ∙ (let small : word % 2 ^ 64 ≡ word = omega arith in small) in
        sym (ap length (values_all word i n e)) ∙ ones_below word i n ∙ sym (count_low word n) ∙ ap count_ones all

-- all values in one word
pub count_only : (f : Marked) (bits first word : ℕ) → width f.max ≡ 1 → ShowsFrom f bits first 0 word → word < 2 ^ 64 → count_ones word ≡ length (marked_from first bits f)
count_only f bits first word one shows fits =
    let to : min ((0 + 1) * 64) (room f.max) - first ≡ room f.max - first = omega (arith, one) in
    let from : min (0 * 64) (room f.max) - first ≡ 0 = omega arith in
    let values : ℕ → List ℕ = λ n. filter (is_set bits f) (range_with_len first n) in
    omega (arith, count_step f bits first 0 word shows fits, ap (λ n. length (values n)) to, ap (λ n. length (values n)) from)

-- some value is marked just where some sum is
pub any_marked : (f : Marked) (bits : ℕ) → length f.marks ≡ room f.max → not (eqb (length (marked_from 0 bits f)) 0) ≡ list_any (λ sum. has_any sum bits) f.marks
any_marked f bits long =
    let all : 0 + (room f.max - 0) ≡ length f.marks = omega (arith, long) in
    ap (λ n. not (eqb n 0)) (sym (count_from (λ sum. has_any sum bits) f.marks (room f.max - 0) 0 all)) ∙ any_counted (λ sum. has_any sum bits) f.marks

-- ---- rows of one word

-- the word of a modifier, where all eight have one
pub eight_bit : (words : List ℕ) (max k b : ℕ) → width max ≡ 1 → k < 8 → b < 64 → bit_at (get_or words k 0) b ≡ mark_at words (width max) 255 k (0 * 64 + b)
eight_bit words max k b one low h =
    let place : k ≡ rows_below 255 k * width max + 0 = omega (arith, ap (λ n. rows_below 255 k * n) one, rows_all k (omega (arith, low))) in
    word_one words (width max) 255 k 0 b k (shr_and_one 255 k ∙ has_row k low) h place

-- the values of a word without a bit past the maximum
pub eight_shown : (words : List ℕ) (max bits word : ℕ) → ShowsMarked (marks_in words max 255) bits 0 word → ((b : ℕ) → b < 64 → room max ≤ b → bit_at word b ≡ 0)
    → (v : ℕ) → v < 64 → eqb (bit_at word v) 1 ≡ is_set bits (marks_in words max 255) v
eight_shown words max bits word shows none v h = elim (cases_lt v (room max)) [
  | inl here ↦
      let same : 0 * 64 + v ≡ v = omega arith in
      subst (λ u. eqb (bit_at word v) 1 ≡ is_set bits (marks_in words max 255) u) same (shows v h (omega (arith, here)))
  | inr past ↦
      let unmarked : bit_and (get_or (sums_of words max 255) v 0) bits ≡ 0 = omega (arith, and_le_l (get_or (sums_of words max 255) v 0) bits, sums_past words max 255 v past) in
      ap (λ n. eqb n 1) (none v h past) ∙ sym (ap (λ n. not (eqb n 0)) unmarked)
]
