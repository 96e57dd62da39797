-- Bits of words that are turned on or off, and what that does to the marks.
use Rattle.std.proofs.Common.{rules, ◌≡◌, ◌≢◌, ℕ, Bool, true, false, ◌+◌, ◌-◌, ◌*◌, ◌/◌, ◌%◌, ◌^◌, ◌<◌, ◌≤◌, ◌⊎◌, List, length, replicate, get_or, set, bit_and, bit_or, refl, ap, sym, ◌∙◌, arith, subst, inl, inr, max, min, get_or-set_same, get_or-set_other, length-set, w8, w64}
use borrow.Rule.Slice.PartMut.{put_mid}
use Rattle.std.specs.Int.{bit_at, bit_not}
use Rattle.std.proofs.lemmas.Bool.{cases_eq, cases_lt}
use Rattle.std.proofs.lemmas.List.{ext_get_or, places}
use Rattle.std.proofs.lemmas.Nat.Bits.{bit_at_and, bit_at_or, bit_at-lt, bit_at-pow_same, bit_at-pow_other, bit_at_not, bit_at_set_same, bit_at_set_other, bit_at_clear_same, bit_at_clear_other, bit_at_above, bit_at_ones, same_from_bits}
use Rattle.croner_base.specs.Field.{room}
use Rattle.croner_base.specs.Private.words.Kept.{NonePast}
use Rattle.croner_base.specs.Private.words.Marked.{Marked, Before, Gains, Turns, digit, turned}
use Rattle.croner_base.specs.Private.words.Masks.{Masks, MasksTo, TurnsRow}
use Rattle.croner_base.specs.Private.words.Rows.{width, rows_below, mark_at, sums_of, marks_in}
use Rattle.croner_base.proofs.words.ModifiersInTurn.{low_all}
use Rattle.croner_base.proofs.words.RowPlaces.{same_place, word_within}
use Rattle.croner_base.proofs.words.Sums.{mark_one, mark_none, sums_bit, sums_past, sums_small, sums_long}

-- ---- one word of a row

-- the bit of one value
row_one : (to : ℕ) (ws : List ℕ) (start v x : ℕ) → start + v / 64 < length ws → bit_at x (v % 64) ≡ to
    → ((b : ℕ) → b < 64 → b ≢ v % 64 → bit_at x b ≡ bit_at (get_or ws (start + v / 64) 0) b) → TurnsRow to ws (set ws (start + v / 64) x) start (λ u. u ≡ v)
row_one to ws start v x within bit others = record {
  inside = λ i b h is.
      let word : v / 64 ≡ i = omega (arith, is) in
      let digit : v % 64 ≡ b = omega (arith, is) in
      subst (λ j. bit_at (get_or (set ws (start + v / 64) x) (start + j) 0) b ≡ to) word
      (ap (λ w. bit_at w b) (get_or-set_same ws (start + v / 64) x 0 within) ∙ ap (bit_at x) (sym digit) ∙ bit);
  kept = λ p b h outside. elim (cases_eq p (start + v / 64)) [
    | inr ne ↦ ap (λ w. bit_at w b) (get_or-set_other ws (start + v / 64) p x 0 ne)
    | inl e ↦ subst (λ q. bit_at (get_or (set ws (start + v / 64) x) q 0) b ≡ bit_at (get_or ws q 0) b) (sym e)
        (ap (λ w. bit_at w b) (get_or-set_same ws (start + v / 64) x 0 within) ∙ others b h (λ same. outside (v / 64) e (omega (arith, same))))
  ];
}

-- the bit of a value, in its word
abbrev digit_of : ℕ → ℕ
digit_of v = 1 * 2 ^ (v % 64) % 2 ^ 64

-- a bit that is put on
pub row_on : (ws : List ℕ) (start v : ℕ) → start + v / 64 < length ws
    → TurnsRow 1 ws (set ws (start + v / 64) (bit_or (get_or ws (start + v / 64) 0) (digit_of v))) start (λ u. u ≡ v)
row_on ws start v within = row_one 1 ws start v _ within (bit_at_set_same w64 (get_or ws (start + v / 64) 0) (v % 64) (omega arith))
    (λ b h ne. bit_at_set_other w64 (get_or ws (start + v / 64) 0) (v % 64) (omega arith) b ne)

-- and one that is taken off
pub row_off : (ws : List ℕ) (start v : ℕ) → start + v / 64 < length ws
    → TurnsRow 0 ws (set ws (start + v / 64) (bit_and (get_or ws (start + v / 64) 0) (bit_not w64 (digit_of v)))) start (λ u. u ≡ v)
row_off ws start v within = row_one 0 ws start v _ within (bit_at_clear_same w64 (get_or ws (start + v / 64) 0) (v % 64) (omega arith))
    (λ b h ne. bit_at_clear_other w64 (get_or ws (start + v / 64) 0) (v % 64) (omega arith) b h ne)

-- the words with a mask's bits in one of them
abbrev pub with_mask : List ℕ → ℕ → ℕ → List ℕ
with_mask ws p mask = set ws p (bit_or (get_or ws p 0) mask)

-- of some values those up to one
abbrev pub UpTo : (ℕ → Type 0) → ℕ → ℕ → Type 0
UpTo asked last v = asked v × (v ≤ last)

-- both masks
both_masks : (some to last n : ℕ) (asked : ℕ → Type 0) → Masks some n asked → MasksTo to last n → Masks (bit_and some to) n (UpTo asked last)
both_masks some to last n asked masks masks_to = record {
  on = λ b h both. omega (arith, bit_at_and some to b, masks.on b h both.0, masks_to.on b h both.1);
  only = λ b h is. (masks.only b h (omega (arith, is, bit_at_and some to b, bit_at-lt some b, bit_at-lt to b)), masks_to.only b h (omega (arith, is, bit_at_and some to b, bit_at-lt some b, bit_at-lt to b)));
}

-- all values of a word are asked for, up to the last
last_mask_alone : (to last n : ℕ) (asked : ℕ → Type 0) → ((v : ℕ) → n * 64 ≤ v → asked v) → MasksTo to last n → Masks to n (UpTo asked last)
last_mask_alone to last n asked all masks = record { on = λ b h both. masks.on b h both.1; only = λ b h is. (all (n * 64 + b) (omega arith), masks.only b h is) }

-- one more word
row_more : (xs ys : List ℕ) (start last n mask : ℕ) (asked : ℕ → Type 0) → TurnsRow 1 xs ys start (Before asked (min (n * 64) (last + 1))) → Masks mask n (UpTo asked last)
    → start + n < length ys → TurnsRow 1 xs (with_mask ys (start + n) mask) start (Before asked (min ((n + 1) * 64) (last + 1)))
row_more xs ys start last n mask asked done masks within = record {
  inside = λ i b h is. elim (cases_eq i n) [
    | inl e ↦ subst (λ j. bit_at (get_or (with_mask ys (start + n) mask) (start + j) 0) b ≡ 1) (sym e)
        (omega (arith, bit b, masks.on b h (subst asked (ap (λ j. j * 64 + b) e) is.0, omega (arith, e, is.1)), bit_at-lt (get_or ys (start + n) 0) b))
    | inr ne ↦ ap (λ w. bit_at w b) (get_or-set_other ys (start + n) (start + i) _ 0 (λ e. ne (omega (arith, e)))) ∙ done.inside i b h (is.0, omega (arith, is.1, h, ne))
  ];
  kept = λ p b h outside. elim (cases_eq p (start + n)) [
    | inr ne ↦ ap (λ w. bit_at w b) (get_or-set_other ys (start + n) p _ 0 ne) ∙ done.kept p b h (λ i e is. outside i e (is.0, omega (arith, is.1)))
    | inl e ↦ subst (λ q. bit_at (get_or (with_mask ys (start + n) mask) q 0) b ≡ bit_at (get_or xs q 0) b) (sym e)
        (same b h (λ is. outside n e (is.0, omega (arith, is.1, h))) ∙ done.kept (start + n) b h (λ i at is. absurd (omega (arith, at, is.1))))
  ];
}
  where
    bit : (b : ℕ) → bit_at (get_or (with_mask ys (start + n) mask) (start + n) 0) b ≡ max (bit_at (get_or ys (start + n) 0) b) (bit_at mask b)
    bit b = ap (λ w. bit_at w b) (get_or-set_same ys (start + n) _ 0 within) ∙ bit_at_or (get_or ys (start + n) 0) mask b

    same : (b : ℕ) → b < 64 → (UpTo asked last (n * 64 + b) → ⊥) → bit_at (get_or (with_mask ys (start + n) mask) (start + n) 0) b ≡ bit_at (get_or ys (start + n) 0) b
    same b h outside = elim (cases_eq (bit_at mask b) 1) [
      | inl on ↦ absurd (outside (masks.only b h on))
      | inr off ↦ omega (arith, off, bit b, bit_at-lt mask b)
    ]

-- the first word
pub row_first : (xs : List ℕ) (start last n some to : ℕ) (asked : ℕ → Type 0) → ((v : ℕ) → asked v → n * 64 ≤ v) → Masks some n asked → MasksTo to last n → start + n < length xs
    → TurnsRow 1 xs (with_mask xs (start + n) (bit_and some to)) start (Before asked (min ((n + 1) * 64) (last + 1)))
row_first xs start last n some to asked from masks masks_to within =
    let none : TurnsRow 1 xs xs start (Before asked (min (n * 64) (last + 1))) = record { inside = λ i b h is. absurd (omega (arith, from _ is.0, is.1)); kept = λ p b h outside. refl } in
    row_more xs xs start last n (bit_and some to) asked none (both_masks some to last n asked masks masks_to) within

-- and the last one
pub row_next : (xs ys : List ℕ) (start last n some to : ℕ) (asked : ℕ → Type 0) → TurnsRow 1 xs ys start (Before asked (min (n * 64) (last + 1))) → Masks some n asked → MasksTo to last n
    → start + n < length ys → TurnsRow 1 xs (with_mask ys (start + n) (bit_and some to)) start (Before asked (min ((n + 1) * 64) (last + 1)))
row_next xs ys start last n some to asked done masks masks_to within = row_more xs ys start last n (bit_and some to) asked done (both_masks some to last n asked masks masks_to) within

-- and the last one of a range
pub row_last : (xs ys : List ℕ) (start last n to : ℕ) (asked : ℕ → Type 0) → ((v : ℕ) → n * 64 ≤ v → asked v) → TurnsRow 1 xs ys start (Before asked (min (n * 64) (last + 1))) → MasksTo to last n
    → start + n < length ys → TurnsRow 1 xs (with_mask ys (start + n) to) start (Before asked (min ((n + 1) * 64) (last + 1)))
row_last xs ys start last n to asked all done masks within = row_more xs ys start last n to asked done (last_mask_alone to last n asked all masks) within

-- the same values are asked for
pub same_asked : {to : ℕ} {old new : List ℕ} {start : ℕ} {asked other : ℕ → Type 0} → TurnsRow to old new start asked → ((v : ℕ) → other v → asked v) → ((v : ℕ) → asked v → other v) → TurnsRow to old new start other
same_asked done back forth = record {
  inside = λ i b h is. done.inside i b h (back _ is);
  kept = λ p b h outside. done.kept p b h (λ i e is. outside i e (forth _ is));
}

-- a whole word is marked
pub row_whole : (xs ys : List ℕ) (start n mask : ℕ) (asked : ℕ → Type 0) → TurnsRow 1 xs ys start (Before asked (n * 64)) → Masks mask n asked
    → start + n < length ys → TurnsRow 1 xs (with_mask ys (start + n) mask) start (Before asked ((n + 1) * 64))
row_whole xs ys start n mask asked done masks within =
    same_asked (row_more xs ys start (n * 64 + 63) n mask asked (same_asked done (λ v is. (is.0, omega (arith, is.1))) (λ v is. (is.0, omega (arith, is.1))))
    (record { on = λ b h both. masks.on b h both.0; only = λ b h is. (masks.only b h is, omega (arith, h)) }) within) (λ v is. (is.0, omega (arith, is.1))) (λ v is. (is.0, omega (arith, is.1)))

-- the words between the first and the last are full
pub row_filled : (xs ys mid : List ℕ) (start last from to k : ℕ) (asked : ℕ → Type 0) → from < to → to * 64 ≤ last → ((v : ℕ) → (from + 1) * 64 ≤ v → asked v) → start + to < length ys → start + from + 1 + k ≡ start + to
    → mid ≡ replicate k (2 ^ 64 - 1) → TurnsRow 1 xs ys start (Before asked (min ((from + 1) * 64) (last + 1))) → TurnsRow 1 xs (put_mid (start + from + 1) k ys mid) start (Before asked (min (to * 64) (last + 1)))
row_filled xs ys mid start last from to k asked ahead behind all within long full done = record {
  inside = λ i b h is. elim (cases_lt from i) [
    | inr le ↦ ap (λ w. bit_at w b) (outer (start + i) (inl (omega (arith, le)))) ∙ done.inside i b h (is.0, omega (arith, le, h, is.1))
    | inl gt ↦ ap (λ w. bit_at w b) (inner (start + i) (omega (arith, gt)) (omega (arith, is.1))) ∙ bit_at_ones 64 b h
  ];
  kept = λ p b h outside. elim (cases_lt p (start + from + 1)) [
    | inl lt ↦ ap (λ w. bit_at w b) (outer p (inl lt)) ∙ done.kept p b h (λ i e is. outside i e (is.0, omega (arith, is.1, ahead)))
    | inr ge ↦ elim (cases_lt p (start + to)) [
      | inl lt ↦ absurd (outside (p - start) (omega (arith, ge)) (all _ (omega (arith, ge)), omega (arith, ge, lt, h, behind)))
      | inr past ↦ ap (λ w. bit_at w b) (outer p (inr past)) ∙ done.kept p b h (λ i e is. absurd (omega (arith, e, past, is.1, ahead)))
    ]
  ];
}
  where
    inner : (p : ℕ) → start + from < p → p < start + to → get_or (put_mid (start + from + 1) k ys mid) p 0 ≡ 2 ^ 64 - 1
    inner p low high = rw full (search (rules, places))

    outer : (p : ℕ) → (p < start + from + 1) ⊎ (start + to ≤ p) → get_or (put_mid (start + from + 1) k ys mid) p 0 ≡ get_or ys p 0
    outer p (inl lt) = rw full (search (rules, places))
    outer p (inr ge) = rw full (search (rules, places))

-- and that is all, once the last word is reached
pub row_done : (xs ys : List ℕ) (start last n : ℕ) (asked : ℕ → Type 0) → last < (n + 1) * 64 → TurnsRow 1 xs ys start (Before asked (min ((n + 1) * 64) (last + 1))) → TurnsRow 1 xs ys start (Before asked (last + 1))
row_done xs ys start last n asked all done = subst (λ stop. TurnsRow 1 xs ys start (Before asked stop)) (omega (arith, all)) done

-- ---- what that does to the marks

-- a row that is turned turns the modifier of its values
pub turns_row : (to : ℕ) (old new : List ℕ) (max s k : ℕ) (asked : ℕ → Type 0) → bit_at s k ≡ 1 → k < 8 → ((v : ℕ) → asked v → v < room max) → TurnsRow to old new (rows_below s k * width max) asked
    → Turns to (marks_in old max s) (marks_in new max s) (2 ^ k) asked
turns_row to old new max s k asked one low there done = record {
  max = refl;
  supported = refl;
  length = sums_long new max s ∙ sym (sums_long old max s);
  inside = λ v j is turned. elim (cases_eq j k) [
    | inr ne ↦ absurd (omega (arith, turned, bit_at-pow_other k j ne))
    | inl e ↦
        let on : bit_at s j ≡ 1 = ap (bit_at s) e ∙ one in
        let row : rows_below s j * width max + v / 64 ≡ rows_below s k * width max + v / 64 = ap (λ i. rows_below s i * width max + v / 64) e in
        sums_bit new max s v j (there v is) (omega (arith, e, low)) ∙ sym (mark_one new (width max) s j v _ on (sym row)) ∙ done.inside (v / 64) (v % 64) (omega arith) (subst asked (omega arith) is)
  ];
  kept = λ v j outside. elim (cases_lt v (room max)) [
    | inr past ↦ ap (λ n. bit_at n j) (sums_past new max s v past ∙ sym (sums_past old max s v past))
    | inl here ↦ elim (cases_lt j 8) [
      | inr high ↦ bit_at_above _ 8 j (sums_small new max s v) high ∙ sym (bit_at_above _ 8 j (sums_small old max s v) high)
      | inl is ↦ sums_bit new max s v j here is ∙ same v j here outside ∙ sym (sums_bit old max s v j here is)
    ]
  ];
}
  where
    same : (v j : ℕ) → v < room max → (asked v → bit_at (2 ^ k) j ≢ 1) → mark_at new (width max) s j v ≡ mark_at old (width max) s j v
    same v j here outside = elim (cases_eq (bit_at s j) 1) [
      | inr off ↦ mark_none new (width max) s j v off ∙ sym (mark_none old (width max) s j v off)
      | inl on ↦
          sym (mark_one new (width max) s j v _ on refl)
          ∙ done.kept (rows_below s j * width max + v / 64) (v % 64) (omega arith) (λ i e is.
          let within = there (i * 64 + v % 64) is in
          let t = same_place s j k (width max) (v / 64) i on one (word_within v max here) (omega (arith, within)) e in
          outside (subst asked (omega (arith, t.1)) is) (ap (bit_at (2 ^ k)) t.0 ∙ bit_at-pow_same k))
          ∙ mark_one old (width max) s j v _ on refl
    ]

-- and no bit past the maximum
pub none_past_turned : (to : ℕ) (old new : List ℕ) (max start : ℕ) (asked : ℕ → Type 0) → ((v : ℕ) → asked v → v < room max) → TurnsRow to old new start asked → NonePast old max → NonePast new max
none_past_turned to old new max start asked there done none p b h past = done.kept p b h (λ i e is. omega (arith, past, there (i * 64 + b) is)) ∙ none p b h past

-- ---- the same as numbers

-- the first eight modifiers are all
turns_all : (to : ℕ) (old new : Marked) (bits k : ℕ) (asked : ℕ → Type 0) → k ≡ 8 → bits < 256 → Turns to old new (bits % 2 ^ k) asked → Turns to old new bits asked
turns_all to old new bits k asked e byte done = subst (λ n. Turns to old new n asked) (ap (λ j. bits % 2 ^ j) e ∙ low_all bits byte) done

-- each modifier in turn: the values gain all bits
pub gains : (old new : Marked) (bits k : ℕ) (asked : ℕ → Type 0) → k ≡ 8 → bits < 256 → Turns 1 old new (bits % 2 ^ k) asked → Gains old new bits asked
gains old new bits k asked e byte below = let done = turns_all 1 old new bits k asked e byte below in record {
  max = done.max;
  supported = done.supported;
  length = done.length;
  inside = λ v is. same_from_bits _ _ (λ k. elim (cases_eq (bit_at bits k) 1) [
    | inl on ↦ done.inside v k is on ∙ sym (omega (arith, on, bit_at_or (get_or old.marks v 0) bits k, bit_at-lt (get_or old.marks v 0) k))
    | inr off ↦ done.kept v k (λ _. off) ∙ sym (omega (arith, off, bit_at_or (get_or old.marks v 0) bits k, bit_at-lt bits k))
  ]);
  kept = λ v outside. same_from_bits _ _ (λ k. done.kept v k (λ is. absurd (outside is)));
}

-- the bits of a sum that is turned
turned-bit : (on : Bool) (x bits k : ℕ) → x < 256 → bits < 256 → bit_at bits k ≡ 1 → bit_at (turned on x bits) k ≡ digit on
turned-bit true x bits k small byte one = omega (arith, bit_at_or x bits k, bit_at-lt x k)
turned-bit false x bits k small byte one = elim (cases_lt k 8) [
  | inl low ↦ omega (arith, bit_at_and x (255 - bits) k, bit_at_not w8 bits k byte low)
  | inr high ↦ absurd (omega (arith, bit_at_above bits 8 k byte high))
]

turned-other : (on : Bool) (x bits k : ℕ) → x < 256 → bits < 256 → bit_at bits k ≢ 1 → bit_at (turned on x bits) k ≡ bit_at x k
turned-other true x bits k small byte off = omega (arith, bit_at_or x bits k, bit_at-lt bits k)
turned-other false x bits k small byte off = elim (cases_lt k 8) [
  | inl low ↦ omega (arith, bit_at_and x (255 - bits) k, bit_at_not w8 bits k byte low, bit_at-lt bits k, bit_at-lt x k)
  | inr high ↦ omega (arith, bit_at_and x (255 - bits) k, bit_at_above x 8 k small high)
]

-- and one value has the sum that is turned
pub one_turned : (on : Bool) (old new : List ℕ) (max s bits v k : ℕ) → v < room max → k ≡ 8 → bits < 256 → Turns (digit on) (marks_in old max s) (marks_in new max s) (bits % 2 ^ k) (λ u. u ≡ v)
    → sums_of new max s ≡ set (sums_of old max s) v (turned on (get_or (sums_of old max s) v 0) bits)
one_turned on old new max s bits v k here is byte below =
    let done = turns_all (digit on) (marks_in old max s) (marks_in new max s) bits k (λ u. u ≡ v) is byte below in
    let y : ℕ = turned on (get_or (sums_of old max s) v 0) bits in
    let there : v < length (sums_of old max s) = omega (arith, sums_long old max s) in
    let small = sums_small old max s v in
    ext_get_or 0 _ _ (done.length ∙ sym (length-set (sums_of old max s) v y)) (λ u lt. elim (cases_eq u v) [
      | inr ne ↦ same_from_bits _ _ (λ k. done.kept u k (λ same. absurd (ne same))) ∙ sym (get_or-set_other (sums_of old max s) v u y 0 ne)
      | inl e ↦ subst (λ i. get_or (sums_of new max s) i 0 ≡ get_or (set (sums_of old max s) v y) i 0) (sym e)
          (same_from_bits _ _ (λ k. elim (cases_eq (bit_at bits k) 1) [
            | inl one ↦ done.inside v k refl one ∙ sym (turned-bit on _ bits k small byte one)
            | inr other ↦ done.kept v k (λ _. other) ∙ sym (turned-other on _ bits k small byte other)
          ]) ∙ sym (get_or-set_same (sums_of old max s) v y 0 there))
    ])
