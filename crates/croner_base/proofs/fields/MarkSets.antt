-- What reading adds to the sets of marks.
use Rattle.std.proofs.Common.{◌≡◌, ℕ, zero, suc, ◌+◌, ◌-◌, ◌*◌, ◌/◌, ◌^◌, ◌<◌, ◌≤◌, ◌↔◌, Bool, true, false, cond, not, ◌||◌, ◌&&◌, eqb, leb, ltb, List, [], ◌∷◌, ◌++◌, length, get_or, refl, ap, sym, ◌∙◌, arith, subst, inl, inr, max, min, bit_and, bit_or, eq-eqb, get_or-set_same, get_or-set_other, length-set, w8}
use Rattle.std.specs.Int.{bit_at}
use Rattle.std.specs.List.{list_any, range_with_len, filter}
use Rattle.std.specs.List.Sorted.{IsStrictlyIncreasing}
use Rattle.std.specs.Str.{trim}
use Rattle.std.proofs.lemmas.Bool.{cases_Bool, cases_eq, eqb-true, ne_eqb, false≢true}
use Rattle.std.proofs.lemmas.Bool.Decides.{nat_tests}
use Rattle.std.proofs.lemmas.List.Folds.{list_any-append}
use Rattle.std.proofs.lemmas.List.FromFn.{length-range_with_len, get_or-range_with_len}
use Rattle.std.proofs.lemmas.List.Kept.{IsStrictlyIncreasing-filter}
use Rattle.std.proofs.lemmas.Nat.Bits.{bit_at_and, bit_at_or, bit_at-lt, bit_at_not, bit_at-zero, same_from_bits}
use native.Mathlib.Nat.{le-div_iff_mul-le}
use Rattle.croner_base.specs.Field.{Shape, Field, has_any, has_all, can_ask, can_mark, is_marked, with_mark, without_mark, values_between, room}
use Rattle.croner_base.specs.Marks.{is_in, has_modifier, is_among, names_here, names, IsStep, IsWellFormed, AddsOne, TakesOne, ListsSet}
use Rattle.croner_base.specs.Part.{all_marked, stepped, stepped_marks, part_of, parts_of}
use Rattle.croner_base.specs.Reading.{Effect, marks, enables, steps, stars, Reading, nothing, ◌then◌, wants, applied, applied_one}
use Rattle.croner_base.proofs.fields.ModifierSets.{has_bit, is_marked-with_mark_same, is_marked-with_mark_other}

or_assoc : (a b c : Bool) → ((a || b) || c) ≡ (a || (b || c))
or_assoc true b c = refl
or_assoc false b c = refl

or_false : (a : Bool) → (a || false) ≡ a
or_false true = refl
or_false false = refl

or_true : (a : Bool) → (a || true) ≡ true
or_true true = refl
or_true false = refl

and_true : (a : Bool) → (a && true) ≡ a
and_true true = refl
and_true false = refl

and_false : (a : Bool) → (a && false) ≡ false
and_false true = refl
and_false false = refl

both_true : (a b : Bool) → (a && b) ≡ true → (a ≡ true) × (b ≡ true)
both_true true true h = (refl, refl)
both_true true false h = absurd (false≢true h)
both_true false b h = absurd (false≢true h)

and_or : (a b h : Bool) → ((a && h) || (b && h)) ≡ ((a || b) && h)
and_or false b h = refl
and_or true false true = refl
and_or true false false = refl
and_or true true true = refl
and_or true true false = refl

-- the sets after a mark at a place that there is
pub is_in-with_mark : (k : ℕ) (f : Field) (v w bits : ℕ) → (v ≡ w → w < length f.marks) → is_in k (with_mark f v bits) w ≡ (is_in k f w || (eqb v w && has_modifier k bits))
is_in-with_mark k f v w bits h = elim (cases_eq v w) [
  | inl e ↦ subst (λ x. is_in k (with_mark f x bits) w ≡ (is_in k f w || (eqb x w && has_modifier k bits))) (sym e)
      (rw (eq-eqb w w refl) (is_marked-with_mark_same k f w bits (h e)))
  | inr ne ↦ rw (ne_eqb v w ne) (is_marked-with_mark_other k f v w bits (λ e. ne (sym e)) ∙ sym (or_false (is_in k f w)))
]

-- and after an unset there
min_not : (x y : ℕ) → x < 2 → y < 2 → not (eqb (min x (1 - y)) 0) ≡ (not (eqb x 0) && not (not (eqb y 0)))
min_not x y a b = grind (arith, nat_tests)

has_any-and_not : (n bits k : ℕ) → k < 8 → bits < 256 → has_any (bit_and n (255 - bits)) (2 ^ k) ≡ (has_any n (2 ^ k) && not (has_any bits (2 ^ k)))
has_any-and_not n bits k h b =
    has_bit (bit_and n (255 - bits)) k
    ∙ ap (λ x. not (eqb x 0)) (bit_at_and n (255 - bits) k)
    ∙ ap (λ x. not (eqb (min (bit_at n k) x) 0)) (bit_at_not w8 bits k b h)
    ∙ min_not (bit_at n k) (bit_at bits k) (bit_at-lt n k) (bit_at-lt bits k)
    ∙ ap (λ x. x && not (not (eqb (bit_at bits k) 0))) (sym (has_bit n k))
    ∙ ap (λ x. has_any n (2 ^ k) && not x) (sym (has_bit bits k))

pub is_in-without_mark : (k : ℕ) (f : Field) (v w bits : ℕ) → (v ≡ w → w < length f.marks) → k < 8 → bits < 256 → is_in k (without_mark f v bits) w ≡ (is_in k f w && not (eqb v w && has_modifier k bits))
is_in-without_mark k f v w bits h low byte = elim (cases_eq v w) [
  | inl e ↦ subst (λ x. is_in k (without_mark f x bits) w ≡ (is_in k f w && not (eqb x w && has_modifier k bits))) (sym e)
      (rw (eq-eqb w w refl) (ap (λ x. has_any x (2 ^ k)) (get_or-set_same f.marks w _ 0 (h e)) ∙ has_any-and_not (get_or f.marks w 0) bits k low byte))
  | inr ne ↦ rw (ne_eqb v w ne) (ap (λ x. has_any x (2 ^ k)) (get_or-set_other f.marks v w _ 0 (λ e. ne (sym e))) ∙ sym (and_true (is_in k f w)))
]

ask_within : (shape : Shape) (v bits size : ℕ) → size ≡ room shape.max → can_ask shape v bits ≡ true → v < size
ask_within shape v bits size e h = grind (arith, nat_tests)

pub adds_one : (f : Field) (v bits : ℕ) → IsWellFormed f → can_ask f.shape v bits ≡ true → AddsOne f v bits
adds_one f v bits whole h =
    let there : v < length f.marks = ask_within f.shape v bits (length f.marks) whole.room h in (
      record { shape = refl; length = length-set f.marks v _; enabled = refl; step = refl; wildcard = refl },
      λ k w. is_in-with_mark k f v w bits (λ e. subst (λ x. x < length f.marks) e there),
    )

pub takes_one : (f : Field) (v bits : ℕ) → IsWellFormed f → can_ask f.shape v bits ≡ true → bits < 256 → TakesOne f v bits
takes_one f v bits whole h byte =
    let there : v < length f.marks = ask_within f.shape v bits (length f.marks) whole.room h in (
      record { shape = refl; length = length-set f.marks v _; enabled = refl; step = refl; wildcard = refl },
      λ k w low. is_in-without_mark k f v w bits (λ e. subst (λ x. x < length f.marks) e there) low byte,
    )

-- the sets after all that was done
pub is_in-applied : (k w : ℕ) (effects : List Effect) (f : Field) → w < length f.marks → is_in k (applied effects f) w ≡ (is_in k f w || list_any (names_here k w) effects)
is_in-applied k w [] f h = sym (or_false (is_in k f w))
is_in-applied k w (marks v bits ∷ more) f h =
    let kept : w < length (with_mark f v bits).marks = omega (arith, length-set f.marks v (bit_or (get_or f.marks v 0) bits)) in
    is_in-applied k w more (with_mark f v bits) kept
    ∙ ap (λ b. b || list_any (names_here k w) more) (is_in-with_mark k f v w bits (λ _. h))
    ∙ or_assoc (is_in k f w) (eqb v w && has_modifier k bits) (list_any (names_here k w) more)
is_in-applied k w (enables bits ∷ more) f h = is_in-applied k w more (applied_one (enables bits) f) h
is_in-applied k w (steps n ∷ more) f h = is_in-applied k w more (applied_one (steps n) f) h
is_in-applied k w (stars ∷ more) f h = is_in-applied k w more (applied_one stars f) h

-- what marking a list of positions names
can_low : (shape : Shape) (v bits : ℕ) → can_mark shape v bits ≡ true → shape.offset ≤ v
can_low shape v bits h = grind (arith, nat_tests)

at_place : (v w o : ℕ) → o ≤ v → eqb (v - o) w ≡ eqb v (w + o)
at_place v w o h = grind (arith, nat_tests)

names-positions : (shape : Shape) (bits : ℕ) (vs : List ℕ) (k w : ℕ) → (all_marked shape bits vs).accepted ≡ true → names k (all_marked shape bits vs) w ≡ (is_among (w + shape.offset) vs && has_modifier k bits)
names-positions shape bits [] k w h = refl
names-positions shape bits (v ∷ vs) k w h = elim (cases_Bool (can_mark shape v bits)) [
  | inl hit ↦
      let rest : (all_marked shape bits vs).accepted ≡ true = (rw hit at h) in
      rw hit (ap (λ b. (eqb (v - shape.offset) w && has_modifier k bits) || b) (names-positions shape bits vs k w rest)
      ∙ ap (λ b. (b && has_modifier k bits) || (is_among (w + shape.offset) vs && has_modifier k bits)) (at_place v w shape.offset (can_low shape v bits hit))
      ∙ and_or (eqb v (w + shape.offset)) (is_among (w + shape.offset) vs) (has_modifier k bits))
  | inr miss ↦ absurd (false≢true (rw miss at h))
]

among_more : (a x n : ℕ) → (eqb a x || (leb (a + 1) x && ltb x ((a + 1) + n))) ≡ (leb a x && ltb x (a + suc n))
among_more a x n = grind (arith, nat_tests)

among_none : (a x : ℕ) → false ≡ (leb a x && ltb x (a + 0))
among_none a x = grind (arith, nat_tests)

pub is_among-range : (a n x : ℕ) → is_among x (range_with_len a n) ≡ (leb a x && ltb x (a + n))
is_among-range a zero x = among_none a x
is_among-range a (suc n) x = ap (λ b. eqb a x || b) (is_among-range (a + 1) n x) ∙ among_more a x n

among_between : (a b x : ℕ) → (leb a x && ltb x (a + ((b + 1) - a))) ≡ (leb a x && leb x b)
among_between a b x = grind (arith, nat_tests)

pub is_among-between : (a b x : ℕ) → is_among x (values_between a b) ≡ (leb a x && leb x b)
is_among-between a b x = is_among-range a ((b + 1) - a) x ∙ among_between a b x

pub names-range : (shape : Shape) (bits a b k w : ℕ) → (all_marked shape bits (values_between a b)).accepted ≡ true → names k (all_marked shape bits (values_between a b)) w ≡ ((leb a (w + shape.offset) && leb (w + shape.offset) b) && has_modifier k bits)
names-range shape bits a b k w h = names-positions shape bits (values_between a b) k w h ∙ ap (λ t. t && has_modifier k bits) (is_among-between a b (w + shape.offset))

-- one reading after another names what either names
pub record NamesBoth (a b whole : Reading) (k w : ℕ) : Type 0 where
  pub first : a.accepted ≡ true
  pub next : b.accepted ≡ true
  pub named : names k whole w ≡ (names k a w || names k b w)

pub names-then : (a b : Reading) (k w : ℕ) → (a then b).accepted ≡ true → NamesBoth a b (a then b) k w
names-then a b k w h = elim (cases_Bool a.accepted) [
  | inl hit ↦
      let joined : a then b ≡ record { done = a.done ++ b.done; accepted = b.accepted } = rw hit refl in
      record {
        first = hit;
        next = ap (λ r. r.accepted) (sym joined) ∙ h;
        named = ap (λ r. names k r w) joined ∙ list_any-append (names_here k w) a.done b.done;
      }
  | inr miss ↦
      let stopped : a then b ≡ a = rw miss refl in
      absurd (false≢true (sym miss ∙ ap (λ r. r.accepted) (sym stopped) ∙ h))
]

-- one of n + 1 steps from s
record InSteps (s n step x : ℕ) : Type 0 where
  count : ℕ
  bound : count ≤ n
  is : x ≡ s + count * step

steps_of-among : (s n step x : ℕ) → is_among x (stepped s n step) ≡ true → InSteps s n step x
steps_of-among s zero step x h =
    let e : s ≡ x = eqb-true s x (sym (or_false (eqb s x)) ∙ h) in
    record { count = 0; bound = omega arith; is = omega arith }
steps_of-among s (suc n) step x h = elim (cases_Bool (eqb s x)) [
  | inl hit ↦
      let e : s ≡ x = eqb-true s x hit in
      record { count = 0; bound = omega arith; is = omega arith }
  | inr miss ↦
      let r = steps_of-among (s + step) n step x (rw miss at h) in
      let b : r.count ≤ n = r.bound in
      let e : x ≡ (s + step) + r.count * step = r.is in
      record { count = r.count + 1; bound = omega arith; is = omega arith }
]

among_of-steps : (s n step x j : ℕ) → j ≤ n → x ≡ s + j * step → is_among x (stepped s n step) ≡ true
among_of-steps s zero step x j b e =
    let none : j ≡ 0 = omega arith in
    let same : s ≡ x = omega (arith, ap (λ i. i * step) none) in
    rw (eq-eqb s x same) refl
among_of-steps s (suc n) step x zero b e =
    let same : s ≡ x = omega arith in
    rw (eq-eqb s x same) refl
among_of-steps s (suc n) step x (suc j) b e =
    let more : x ≡ (s + step) + j * step = omega arith in
    ap (λ t. eqb s x || t) (among_of-steps (s + step) n step x j (omega arith) more) ∙ or_true (eqb s x)

names-wants : (t : Bool) (k w : ℕ) → names k (wants t nothing) w ≡ false
names-wants true k w = refl
names-wants false k w = refl

pub names-steps : (shape : Shape) (bits s e step k w : ℕ) → 0 < step → s ≤ e → (stepped_marks shape bits s e step).accepted ≡ true → (names k (stepped_marks shape bits s e step) w ≡ true) ↔ (IsStep shape s e step w × (has_modifier k bits ≡ true))
names-steps shape bits s e step k w some order h =
    let n : ℕ = (e - s) / step in
    let both = names-then (all_marked shape bits (stepped s ((e - s) / step) step)) (wants (ltb (s + ((e - s) / step + 1) * step) 65536) nothing) k w h in
    let at = names-positions shape bits (stepped s ((e - s) / step) step) k w both.first in
    let all : names k (stepped_marks shape bits s e step) w ≡ (is_among (w + shape.offset) (stepped s ((e - s) / step) step) && has_modifier k bits) =
    both.named ∙ ap (λ b. names k (all_marked shape bits (stepped s ((e - s) / step) step)) w || b) (names-wants (ltb (s + ((e - s) / step + 1) * step) 65536) k w) ∙ or_false _ ∙ at in (
      λ named.
          let t = both_true (is_among (w + shape.offset) (stepped s ((e - s) / step) step)) (has_modifier k bits) (sym all ∙ named) in
          let r = steps_of-among s ((e - s) / step) step (w + shape.offset) t.0 in
          let i : w + shape.offset ≡ s + r.count * step = r.is in
          let c : r.count * step ≤ e - s = (le-div_iff_mul-le some).0 r.bound in
          (record { count = r.count; is = i; within = omega arith }, t.1),
      λ given.
          let i : w + shape.offset ≡ s + given.0.count * step = given.0.is in
          let within : w + shape.offset ≤ e = given.0.within in
          let c : given.0.count * step ≤ e - s = omega arith in
          let b : given.0.count ≤ (e - s) / step = (le-div_iff_mul-le some).1 c in
          all ∙ ap (λ t. t && has_modifier k bits) (among_of-steps s ((e - s) / step) step (w + shape.offset) given.0.count b i) ∙ given.1,
    )

-- a list names what its parts name
empty_list : (xs : List ℕ) → eqb (length xs) 0 ≡ true → xs ≡ []
empty_list [] h = refl
empty_list (x ∷ xs) h = absurd (omega (arith, eqb-true (length (x ∷ xs)) 0 h))

names-first : (shape : Shape) (text : List ℕ) (k w : ℕ) → names k (cond (eqb (length text) 0) nothing (part_of shape text)) w ≡ names k (part_of shape text) w
names-first shape text k w = elim (cases_Bool (eqb (length text) 0)) [
  | inl hit ↦ rw hit (sym (ap (λ t. names k (part_of shape t) w) (empty_list text hit)))
  | inr miss ↦ rw miss refl
]

pub names-parts : (shape : Shape) (parts : List (List ℕ)) (k w : ℕ) → (parts_of shape parts).accepted ≡ true → names k (parts_of shape parts) w ≡ list_any (λ part. names k (part_of shape (trim part)) w) parts
names-parts shape [] k w h = refl
names-parts shape (p ∷ ps) k w h =
    let both = names-then (cond (eqb (length (trim p)) 0) nothing (part_of shape (trim p))) (parts_of shape ps) k w h in
    both.named
    ∙ ap (λ b. b || names k (parts_of shape ps) w) (names-first shape (trim p) k w)
    ∙ ap (λ b. names k (part_of shape (trim p)) w || b) (names-parts shape ps k w both.next)

-- the listed values
among-filter : (p : ℕ → Bool) (xs : List ℕ) (w : ℕ) → is_among w (filter p xs) ≡ (is_among w xs && p w)
among-filter p [] w = refl
among-filter p (x ∷ xs) w = elim (cases_Bool (p x)) [
  | inl hit ↦ rw hit (ap (λ b. eqb x w || b) (among-filter p xs w) ∙ elim (cases_eq x w) [
    | inl e ↦ rw (eq-eqb x w e) (sym (ap p (sym e) ∙ hit))
    | inr ne ↦ rw (ne_eqb x w ne) refl
  ])
  | inr miss ↦ rw miss (among-filter p xs w ∙ elim (cases_eq x w) [
    | inl e ↦ rw (eq-eqb x w e) (ap (λ b. is_among w xs && b) (ap p (sym e) ∙ miss) ∙ and_false (is_among w xs) ∙ sym (ap p (sym e) ∙ miss))
    | inr ne ↦ rw (ne_eqb x w ne) refl
  ])
]

range_increases : (a b : ℕ) → IsStrictlyIncreasing (values_between a b)
range_increases a b k h =
    let n : k + 1 < (b + 1) - a = omega (arith, h, length-range_with_len a ((b + 1) - a)) in
    omega (arith, get_or-range_with_len a ((b + 1) - a) k 0 (omega arith), get_or-range_with_len a ((b + 1) - a) (k + 1) 0 n)

pub lists_set : (f : Field) (bits : ℕ) → ListsSet bits f
lists_set f bits = elim (cases_Bool (has_all f.shape.supported bits)) [
  | inl hit ↦ record {
    ascending = rw hit (IsStrictlyIncreasing-filter (is_marked bits f) (values_between f.shape.min f.shape.max) (range_increases f.shape.min f.shape.max));
    members = λ w. rw hit (among-filter (is_marked bits f) (values_between f.shape.min f.shape.max) w ∙ ap (λ b. b && is_marked bits f w) (is_among-between f.shape.min f.shape.max w));
  }
  | inr miss ↦ record {
    ascending = rw miss (λ k h. absurd (omega (arith, h)));
    members = λ w. rw miss refl;
  }
]

-- one of several bits
min_max : (n a b : ℕ) → min n (max a b) ≡ max (min n a) (min n b)
min_max n a b = omega arith

and_or_bits : (n a b : ℕ) → bit_and n (bit_or a b) ≡ bit_or (bit_and n a) (bit_and n b)
and_or_bits n a b = same_from_bits _ _ (λ i.
    bit_at_and n (bit_or a b) i ∙ ap (λ x. min (bit_at n i) x) (bit_at_or a b i) ∙ min_max (bit_at n i) (bit_at a i) (bit_at b i)
    ∙ ap (λ x. max x (min (bit_at n i) (bit_at b i))) (sym (bit_at_and n a i)) ∙ ap (λ x. max (bit_at (bit_and n a) i) x) (sym (bit_at_and n b i))
    ∙ sym (bit_at_or (bit_and n a) (bit_and n b) i))

or_none : (x y : ℕ) → bit_or x y ≡ 0 → (x ≡ 0) × (y ≡ 0)
or_none x y h = (
  same_from_bits x 0 (λ i. omega (arith, bit_at_or x y i, bit_at-zero i, ap (λ n. bit_at n i) h)),
  same_from_bits y 0 (λ i. omega (arith, bit_at_or x y i, bit_at-zero i, ap (λ n. bit_at n i) h)),
)

some_or : (x y : ℕ) → not (eqb (bit_or x y) 0) ≡ (not (eqb x 0) || not (eqb y 0))
some_or x y = elim (cases_eq (bit_or x y) 0) [
  | inl e ↦
      let both = or_none x y e in
      rw (eq-eqb (bit_or x y) 0 e, eq-eqb x 0 both.0, eq-eqb y 0 both.1) refl
  | inr ne ↦ rw (ne_eqb (bit_or x y) 0 ne) (elim (cases_eq x 0) [
    | inl none ↦ elim (cases_eq y 0) [
      | inl none_too ↦ absurd (ne (ap (λ a. bit_or a y) none ∙ ap (λ b. bit_or 0 b) none_too))
      | inr some ↦ rw (ne_eqb y 0 some) (sym (or_true (not (eqb x 0))))
    ]
    | inr some ↦ rw (ne_eqb x 0 some) refl
  ])
]

pub has_any-several : (n a b : ℕ) → has_any n (bit_or a b) ≡ (has_any n a || has_any n b)
has_any-several n a b = ap (λ x. not (eqb x 0)) (and_or_bits n a b) ∙ some_or (bit_and n a) (bit_and n b)

pub zero-ask : (shape : Shape) (v bits : ℕ) → shape.max ≡ 0 → can_ask shape v bits ≡ false
zero-ask shape v bits h = rw (eq-eqb shape.max 0 h) (and_false _)

pub zero-mark : (shape : Shape) (v bits : ℕ) → shape.max ≡ 0 → can_mark shape v bits ≡ false
zero-mark shape v bits h = ap (λ b. leb shape.offset v && b) (zero-ask shape (v - shape.offset) bits h) ∙ and_false _
