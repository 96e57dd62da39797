-- What a default component holds and takes: nothing.
use Rattle.std.proofs.Common.{◌≡◌, ℕ, nat_lt, zero, suc, ◌+◌, ◌-◌, ◌*◌, ◌/◌, Bool, true, false, not, ◌||◌, ◌&&◌, eqb, ◌==◌, leb, List, [], ◌∷◌, length, Option, Some, None, refl, ap, sym, ◌∙◌, arith, subst, inl, inr, bit_and, codes, if◌then◌else◌}
use Rattle.std.specs.Int.Bits.{and_zero_l}
use Rattle.std.specs.List.{All, range_with_len, filter, before_first}
use Rattle.std.specs.Str.{trim, bytes_eq}
use Rattle.std.proofs.lemmas.Bool.{cases_Bool, eqb-true, leb-true, false≢true}
use Rattle.std.proofs.Math.Bool.{and-false}
use Rattle.std.proofs.lemmas.List.Elements.{All-cons}
use Rattle.croner_base.specs.Field.{Shape, default_field, has_any, has_all, is_in_bounds, is_marked, marked_values, values_between}
use Rattle.croner_base.specs.Part.{marked, all_marked, enabled, contains_byte, pieces_at, ends_in_l, head_of, tag_of, number_of, two_of, is_letter_l, is_starred, step_bounds, stepped, stepped_marks, stepping, ranged, nearest_weekday, single, one_number, part_of, parts_of, field_of}
use Rattle.croner_base.specs.Reading.{Reading, nothing, ◌then◌, wants, with, did, marks, steps, stars}
use Rattle.croner_base.proofs.fields.MarkSets.{zero-mark}

pub no_any : (bits : ℕ) → has_any 0 bits ≡ false
no_any bits = ap (λ n. not (eqb n 0)) (and_zero_l bits)

pub none_kept : (p : ℕ → Bool) → p 0 ≡ false → filter p (0 ∷ []) ≡ []
none_kept p h = rw h refl

both_empty : (test : Bool) (xs : List ℕ) → xs ≡ [] → (if test then xs else []) ≡ []
both_empty true xs h = h
both_empty false xs h = refl

pub nothing_listed : (bits : ℕ) → marked_values bits default_field ≡ []
nothing_listed bits = both_empty (has_all 0 bits) (filter (is_marked bits default_field) (values_between 0 0)) (none_kept (is_marked bits default_field) (no_any bits))

pub no_feature : (bits : ℕ) → has_all 0 bits ≡ true → bits ≡ 0
no_feature bits h = sym (eqb-true (bit_and 0 bits) bits h) ∙ and_zero_l bits

abbrev none : Shape
none = default_field.shape

-- a refused reading after or before others
first_refused : (a b : Reading) → a.accepted ≡ false → (a then b).accepted ≡ false
first_refused a b h = rw h refl

next_refused : (a b : Reading) → b.accepted ≡ false → (a then b).accepted ≡ false
next_refused a b h = elim (cases_Bool a.accepted) [
  | inl went_on ↦ rw went_on h
  | inr stopped ↦ rw stopped refl
]

wants_refused : (test : Bool) (next : Reading) → next.accepted ≡ false → (wants test next).accepted ≡ false
wants_refused true next h = h
wants_refused false next h = refl

with_refused : {X : Type 0} (found : Option X) (next : X → Reading) → ((x : X) → (next x).accepted ≡ false) → (with found next).accepted ≡ false
with_refused None next h = refl
with_refused (Some x) next h = h x

either_refused : (test : Bool) (a b : Reading) → a.accepted ≡ false → b.accepted ≡ false → (if test then a else b).accepted ≡ false
either_refused true a b ha hb = ha
either_refused false a b ha hb = hb

mark_refused : (bits v : ℕ) → (marked none bits v).accepted ≡ false
mark_refused bits v = ap (λ b. (wants b (did (marks (v - none.offset) bits))).accepted) (zero-mark none v bits refl)

marks_refused : (bits v : ℕ) (vs : List ℕ) → (all_marked none bits (v ∷ vs)).accepted ≡ false
marks_refused bits v vs = first_refused (marked none bits v) (all_marked none bits vs) (mark_refused bits v)

number_refused : (bits : ℕ) (head : List ℕ) → (single none bits head).accepted ≡ false
number_refused bits head = with_refused (number_of head) _ (λ n. wants_refused _ _ (mark_refused bits n))

steps_refused : (bits s n step : ℕ) → (all_marked none bits (stepped s n step)).accepted ≡ false
steps_refused bits s zero step = marks_refused bits s []
steps_refused bits s (suc n) step = marks_refused bits s (stepped (s + step) n step)

bounds_refused : (tag step : ℕ) (left : List ℕ) → (with (step_bounds none left) (λ range. wants ((leb 0 range.0 && leb range.1 0) && leb range.0 range.1) (stepped_marks none tag range.0 range.1 step))).accepted ≡ false
bounds_refused tag step left =
    with_refused (step_bounds none left) (λ range. wants ((leb 0 range.0 && leb range.1 0) && leb range.0 range.1) (stepped_marks none tag range.0 range.1 step)) (λ range.
    wants_refused ((leb 0 range.0 && leb range.1 0) && leb range.0 range.1) (stepped_marks none tag range.0 range.1 step)
    (first_refused (all_marked none tag (stepped range.0 ((range.1 - range.0) / step) step)) (wants (nat_lt (range.0 + ((range.1 - range.0) / step + 1) * step) 65536) nothing) (steps_refused tag range.0 ((range.1 - range.0) / step) step)))

-- what a part with a `/` reads after its sides
sided : ℕ → List ℕ × List ℕ → ℕ → Reading
sided tag sides step =
    did (steps step)
    then wants (not (step == 0)) nothing
    then (if is_starred none sides.0 then did stars else nothing)
    then with (step_bounds none sides.0) (λ range. wants ((leb 0 range.0 && leb range.1 0) && leb range.0 range.1) (stepped_marks none tag range.0 range.1 step))

sided_refused : (tag : ℕ) (sides : List ℕ × List ℕ) (step : ℕ) → (sided tag sides step).accepted ≡ false
unfolding sided
sided_refused tag sides step =
    next_refused (did (steps step) then wants (not (step == 0)) nothing then (if is_starred none sides.0 then did stars else nothing))
    (with (step_bounds none sides.0) (λ range. wants ((leb 0 range.0 && leb range.1 0) && leb range.0 range.1) (stepped_marks none tag range.0 range.1 step)))
    (bounds_refused tag step sides.0)

stepping_refused : (part : List ℕ) → (stepping none part).accepted ≡ false
unfolding sided
stepping_refused part =
    with_refused (tag_of part) (λ tag. with (two_of (pieces_at 47 (head_of part))) (λ sides. with (number_of sides.1) (λ step. sided tag sides step))) (λ tag.
    with_refused (two_of (pieces_at 47 (head_of part))) (λ sides. with (number_of sides.1) (λ step. sided tag sides step)) (λ sides.
    with_refused (number_of sides.1) (λ step. sided tag sides step) (λ step. sided_refused tag sides step)))

between_refused : (bits a b : ℕ) → (wants ((leb 0 a && leb b 0) && leb a b) (all_marked none bits (values_between a b))).accepted ≡ false
between_refused bits a b = elim (cases_Bool (leb a b)) [
  | inl test ↦
      let order = leb-true a b test in
      let some : (b + 1) - a ≡ suc (b - a) = omega (arith, order) in
      wants_refused _ (all_marked none bits (values_between a b)) (subst (λ n. (all_marked none bits (range_with_len a n)).accepted ≡ false) (sym some) (marks_refused bits a (range_with_len (a + 1) (b - a))))
  | inr miss ↦ subst (λ t. (wants ((leb 0 a && leb b 0) && t) (all_marked none bits (values_between a b))).accepted ≡ false) (sym miss) (subst (λ t. (wants t (all_marked none bits (values_between a b))).accepted ≡ false) (sym (and-false (leb 0 a && leb b 0))) refl)
]

ranged_refused : (part : List ℕ) → (ranged none part).accepted ≡ false
ranged_refused part =
    with_refused (tag_of part) (λ tag. with (two_of (pieces_at 45 (head_of part))) (λ sides. with (number_of (trim sides.0)) (λ a. with (number_of (trim sides.1)) (λ b. wants ((leb 0 a && leb b 0) && leb a b) (all_marked none tag (values_between a b)))))) (λ tag.
    with_refused (two_of (pieces_at 45 (head_of part))) (λ sides. with (number_of (trim sides.0)) (λ a. with (number_of (trim sides.1)) (λ b. wants ((leb 0 a && leb b 0) && leb a b) (all_marked none tag (values_between a b))))) (λ sides.
    with_refused (number_of (trim sides.0)) (λ a. with (number_of (trim sides.1)) (λ b. wants ((leb 0 a && leb b 0) && leb a b) (all_marked none tag (values_between a b)))) (λ a.
    with_refused (number_of (trim sides.1)) (λ b. wants ((leb 0 a && leb b 0) && leb a b) (all_marked none tag (values_between a b))) (λ b. between_refused tag a b))))

feature_refused : (enabled none 64).accepted ≡ false
feature_refused = refl

nearest_refused : (part : List ℕ) → (nearest_weekday none part).accepted ≡ false
nearest_refused part =
    let day = before_first (λ b. b == 87) part in
    either_refused (is_letter_l day) (enabled none 64 then enabled none 128) (with (number_of day) (λ n. wants (is_in_bounds none n) (marked none 128 n)))
    (first_refused (enabled none 64) (enabled none 128) feature_refused)
    (with_refused (number_of day) (λ n. wants (is_in_bounds none n) (marked none 128 n)) (λ n. wants_refused (is_in_bounds none n) (marked none 128 n) (mark_refused 128 n)))

one_refused : (part : List ℕ) → (one_number none part).accepted ≡ false
one_refused part =
    wants_refused (not (contains_byte 35 part || contains_byte 76 part) || has_all 0 62)
    (if ends_in_l part && not (contains_byte 35 part) then single none 64 (before_first (λ b. b == 76) part) else with (tag_of part) (λ tag. single none tag (head_of part)))
    (either_refused (ends_in_l part && not (contains_byte 35 part)) (single none 64 (before_first (λ b. b == 76) part)) (with (tag_of part) (λ tag. single none tag (head_of part)))
    (number_refused 64 (before_first (λ b. b == 76) part))
    (with_refused (tag_of part) (λ tag. single none tag (head_of part)) (λ tag. number_refused tag (head_of part))))

part_refused : (part : List ℕ) → (part_of none part).accepted ≡ false
part_refused part =
    let last = if is_letter_l part then enabled none 64 else one_number none part in
    let near = if contains_byte 87 part then nearest_weekday none part else last in
    let range = if contains_byte 45 part then ranged none part else near in
    either_refused (contains_byte 47 part) (stepping none part) range (stepping_refused part)
    (either_refused (contains_byte 45 part) (ranged none part) near (ranged_refused part)
    (either_refused (contains_byte 87 part) (nearest_weekday none part) last (nearest_refused part)
    (either_refused (is_letter_l part) (enabled none 64) (one_number none part) feature_refused (one_refused part))))

-- a list is accepted only where it has no part
blank_rest : (part : List ℕ) (rest : Reading) (b : Bool) → (length (trim part) == 0) ≡ b → ((if b then nothing else part_of none (trim part)) then rest).accepted ≡ true → (length (trim part) ≡ 0) × (rest.accepted ≡ true)
blank_rest part rest true test h = (eqb-true (length (trim part)) 0 test, h)
blank_rest part rest false test h = absurd (false≢true (sym (first_refused (part_of none (trim part)) rest (part_refused (trim part))) ∙ h))

blank_parts : (parts : List (List ℕ)) → (parts_of none parts).accepted ≡ true → All (λ part. length (trim part) ≡ 0) parts
blank_parts [] h = λ k d more. absurd (omega (arith, more))
blank_parts (part ∷ parts) h =
    let one = blank_rest part (parts_of none parts) (length (trim part) == 0) refl h in
    All-cons (λ p. length (trim p) ≡ 0) part parts one.0 (blank_parts parts one.1)

pub only_blank : (text : List ℕ) → (field_of none text).accepted ≡ true → All (λ part. length (trim part) ≡ 0) (pieces_at 44 text)
only_blank text h = elim (cases_Bool (bytes_eq text (codes "*"))) [
  | inl star ↦ absurd (false≢true (sym (next_refused (did stars) (all_marked none 1 (range_with_len 0 1)) (marks_refused 1 0 [])) ∙ subst (λ b. (if b then (did stars then all_marked none 1 (range_with_len 0 1)) else parts_of none (pieces_at 44 text)).accepted ≡ true) star h))
  | inr list ↦ blank_parts (pieces_at 44 text) (subst (λ b. (if b then (did stars then all_marked none 1 (range_with_len 0 1)) else parts_of none (pieces_at 44 text)).accepted ≡ true) list h)
]
