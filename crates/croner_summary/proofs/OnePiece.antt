-- The one piece that names plain values, and that it is the shortest.
use Rattle.std.proofs.Common.{◌≡◌, ℕ, ◌+◌, ◌-◌, ◌%◌, ◌<◌, ◌≤◌, Bool, true, false, ◌&&◌, cond, eqb, leb, ltb, refl, ap, sym, ◌∙◌, subst, arith, inl, inr}
use Rattle.std.proofs.lemmas.Bool.{and_parts, cases_Bool, cases_eq, cases_lt}
use Rattle.std.proofs.lemmas.Bool.Decides.{nat_tests}
use Rattle.std.proofs.lemmas.Nat.{mod_below}
use Rattle.croner_base.specs.Field.{Field}
use Rattle.croner_pattern.specs.Schedule.{is_plain}
use Rattle.croner_summary.specs.declared.phrase.Piece.{Piece}
use Rattle.croner_summary.specs.declared.phrase.Piece.TheVariants.{Every, EveryNth, One, Range, RangeNth}
use Rattle.croner_summary.specs.Says.{is_stepwise, is_within}
use Rattle.croner_summary.specs.Lengths.{words_in}
use Rattle.croner_summary.specs.Order.{is_of_field, is_range_of}
use Rattle.croner_summary.specs.Private.Spacing.{AreEnds, IsShortestPiece, LieEvenly, NamesPlain, stepped_piece}
use Rattle.croner_summary.proofs.Distances.{a_step_at_least, below_step, from_later, not_stepwise, one_step, rest_of_stepwise, stepwise_of}

-- ---- values that go in steps from one number to another

record Spaced (least greatest : ℕ) (f : Field) (start end n : ℕ) : Type 0 where
  pub some : 0 < n
  pub is : (value : ℕ) → least ≤ value → value ≤ greatest → is_plain f value ≡ (is_within start end value && is_stepwise n (value - start))

record Placed (start end n value : ℕ) : Type 0 where
  pub low : start ≤ value
  pub high : value ≤ end
  pub whole : (value - start) % n ≡ 0

placed : (least greatest : ℕ) (f : Field) (start end n value : ℕ) → Spaced least greatest f start end n → least ≤ value → value ≤ greatest
    → is_plain f value ≡ true → Placed start end n value
placed least greatest f start end n value s low high hit =
    let parts = and_parts (is_within start end value) (is_stepwise n (value - start)) (sym (s.is value low high) ∙ hit) in
    let bounds = and_parts (leb start value) (leb value end) parts.0 in
    let from_start : leb start value ≡ true = bounds.0 in
    let to_end : leb value end ≡ true = bounds.1 in
    record { low = grind (arith, nat_tests); high = grind (arith, nat_tests); whole = (rest_of_stepwise n (value - start) parts.1).rest }

within_of : (start end value : ℕ) → start ≤ value → value ≤ end → is_within start end value ≡ true
within_of start end value low high = grind (arith, nat_tests)

-- the second lies a step after the first
second_is : (least greatest : ℕ) (f : Field) (first second last start end n : ℕ) → AreEnds least greatest f first second last → Spaced least greatest f start end n
    → second ≡ first + n
second_is least greatest f first second last start end n e s =
    let a = placed least greatest f start end n first s e.low (omega (arith, e.order, e.fits, e.high)) e.first_plain in
    let b = placed least greatest f start end n second s (omega (arith, e.low, e.order)) (omega (arith, e.fits, e.high)) e.second_plain in
    let apart : (second - first) % n ≡ 0 = sym (from_later n start first second a.low (omega (arith, e.order)) a.whole) ∙ b.whole in
    let far : n ≤ second - first = a_step_at_least n (second - first) (omega (arith, e.order)) apart in
    elim (cases_eq second (first + n)) [
      | inl same ↦ same
      | inr differs ↦
          let some : 0 < n = s.some in
          let inside : first + n < second = omega (arith, e.order) in
          let d : (first + n) - start ≡ (first - start) + n = omega (arith, a.low) in
          let on_step : is_stepwise n ((first + n) - start) ≡ true = stepwise_of n ((first + n) - start) some (ap (λ k. k % n) d ∙ one_step n (first - start) a.whole) in
          let there : is_within start end (first + n) ≡ true = within_of start end (first + n) (omega (arith, a.low)) (omega (arith, b.high)) in
          let hit : is_plain f (first + n) ≡ true = s.is (first + n) (omega (arith, e.low)) (omega (arith, e.fits, e.high)) ∙ rw (there, on_step) refl in
          let miss : is_plain f (first + n) ≡ false = e.between (first + n) (omega arith) inside in
          absurd (cc)
    ]

-- and so do the others
even_of : (least greatest : ℕ) (f : Field) (first second last start end n : ℕ) → AreEnds least greatest f first second last → Spaced least greatest f start end n
    → LieEvenly f first last n
even_of least greatest f first second last start end n e s value low high =
    let a = placed least greatest f start end n first s e.low (omega (arith, e.order, e.fits, e.high)) e.first_plain in
    let z = placed least greatest f start end n last s (omega (arith, e.low, e.order, e.fits)) e.high e.last_plain in
    let there : is_within start end value ≡ true = within_of start end value (omega (arith, a.low)) (omega (arith, z.high)) in
    let same : (value - start) % n ≡ (value - first) % n = from_later n start first value a.low low a.whole in
    s.is value (omega (arith, e.low)) (omega (arith, e.high)) ∙ rw (there, same) refl

-- ---- what each piece says of the ends

whole_of_one : (d : ℕ) → is_stepwise 1 d ≡ true
whole_of_one d = let small : d % 1 < 1 = mod_below d 1 (omega arith) in stepwise_of 1 d (omega arith) (omega arith)

spaced_every : (least greatest : ℕ) (f : Field) → NamesPlain least greatest f Every → Spaced least greatest f least greatest 1
spaced_every least greatest f names = record {
  some = omega arith;
  is = λ value low high. sym (names value low high) ∙ sym (rw (within_of least greatest value low high, whole_of_one (value - least)) refl);
}

and_true : (a b : Bool) → b ≡ true → a ≡ (a && b)
and_true true b hit = sym hit
and_true false b hit = refl

spaced_range : (least greatest a b : ℕ) (f : Field) → NamesPlain least greatest f (Range a b) → Spaced least greatest f a b 1
spaced_range least greatest a b f names = record {
  some = omega arith;
  is = λ value low high. sym (names value low high) ∙ and_true (is_within a b value) (is_stepwise 1 (value - a)) (whole_of_one (value - a));
}

-- the least value is the first, where it is plain
first_is_least : (least greatest : ℕ) (f : Field) (first second last : ℕ) → AreEnds least greatest f first second last → is_plain f least ≡ true → first ≡ least
first_is_least least greatest f first second last e hit =
    elim (cases_lt least first) [
      | inl above ↦ let miss : is_plain f least ≡ false = e.before least (omega arith) above in absurd (cc)
      | inr at ↦ omega (arith, e.low)
    ]

last_is_greatest : (least greatest : ℕ) (f : Field) (first second last : ℕ) → AreEnds least greatest f first second last → is_plain f greatest ≡ true → last ≡ greatest
last_is_greatest least greatest f first second last e hit =
    elim (cases_lt last greatest) [
      | inl below ↦ let miss : is_plain f greatest ≡ false = e.after greatest below (omega arith) in absurd (cc)
      | inr at ↦ omega (arith, e.high)
    ]

-- ---- words

words_cond : (b : Bool) (x y : Piece) (k : ℕ) → words_in x ≤ k → words_in y ≤ k → words_in (cond b x y) ≤ k
words_cond true x y k p q = p
words_cond false x y k p q = q

four_at_most : (least greatest first last step : ℕ) → words_in (stepped_piece least greatest first last step) ≤ 4
four_at_most least greatest first last step =
    words_cond (eqb step 1) _ _ 4 (words_cond (eqb first least && eqb last greatest) _ _ 4 (omega arith) (omega arith))
    (words_cond (eqb first least && (is_stepwise step ((greatest + 1) - least) && eqb (last + step) (greatest + 1))) _ _ 4 (omega arith) (omega arith))

two_at_most : (least greatest first last : ℕ) → words_in (stepped_piece least greatest first last 1) ≤ 2
two_at_most least greatest first last = words_cond (eqb first least && eqb last greatest) _ _ 2 (omega arith) (omega arith)

same_number : (a b : ℕ) → a ≡ b → eqb a b ≡ true
same_number a b same = grind (arith, nat_tests)

every_is : (least greatest first last : ℕ) → first ≡ least → last ≡ greatest → words_in (stepped_piece least greatest first last 1) ≤ 1
every_is least greatest first last low high = rw (same_number first least low, same_number last greatest high) (omega arith)

nth_is : (least greatest first last step : ℕ) → first ≡ least → is_stepwise step ((greatest + 1) - least) ≡ true → last + step ≡ greatest + 1
    → words_in (stepped_piece least greatest first last step) ≤ 2
nth_is least greatest first last step low whole high =
    words_cond (eqb step 1) _ _ 2 (words_cond (eqb first least && eqb last greatest) _ _ 2 (omega arith) (omega arith))
    (rw (same_number first least low, whole, same_number (last + step) (greatest + 1) high) (omega arith))

-- ---- each nth of the whole field

spaced_nth : (least greatest n : ℕ) (f : Field) → is_stepwise n ((greatest + 1) - least) ≡ true → NamesPlain least greatest f (EveryNth n) → Spaced least greatest f least greatest n
spaced_nth least greatest n f whole names = record {
  some = (rest_of_stepwise n ((greatest + 1) - least) whole).some;
  is = λ value low high. sym (names value low high) ∙ rw (whole, within_of least greatest value low high) refl;
}

-- the last of them lies a step before the end
last_of_nth : (least greatest n : ℕ) (f : Field) (first second last : ℕ) → AreEnds least greatest f first second last → first ≡ least
    → is_stepwise n ((greatest + 1) - least) ≡ true → NamesPlain least greatest f (EveryNth n) → last + n ≡ greatest + 1
last_of_nth least greatest n f first second last e low whole names =
    let s = spaced_nth least greatest n f whole names in
    let z = placed least greatest f least greatest n last s (omega (arith, e.low, e.order, e.fits)) e.high e.last_plain in
    let len = rest_of_stepwise n ((greatest + 1) - least) whole in
    let left : ((greatest + 1) - last) % n ≡ 0 = sym (from_later n least last (greatest + 1) z.low (omega (arith, e.high)) z.whole) ∙ len.rest in
    let far : n ≤ (greatest + 1) - last = a_step_at_least n ((greatest + 1) - last) (omega (arith, e.high)) left in
    elim (cases_lt greatest (last + n)) [
      | inl near ↦ omega (arith, e.high)
      | inr inside ↦
          let d : (last + n) - least ≡ (last - least) + n = omega (arith, z.low) in
          let on_step : is_stepwise n ((last + n) - least) ≡ true = stepwise_of n ((last + n) - least) len.some (ap (λ k. k % n) d ∙ one_step n (last - least) z.whole) in
          let hit : is_plain f (last + n) ≡ true = sym (names (last + n) (omega (arith, z.low)) inside) ∙ rw (whole, on_step) refl in
          let miss : is_plain f (last + n) ≡ false = e.after (last + n) (omega (arith, len.some)) inside in
          absurd (cc)
    ]

-- ---- no piece that names them has fewer words

step_of : (first second n : ℕ) → second ≡ first + n → second - first ≡ n
step_of first second n is = omega arith

pub shortest : (least greatest : ℕ) (f : Field) (first second last : ℕ) → AreEnds least greatest f first second last
    → IsShortestPiece least greatest f (stepped_piece least greatest first last (second - first))
shortest least greatest f first second last e Every names =
    let step = step_of first second 1 (second_is least greatest f first second last least greatest 1 e (spaced_every least greatest f names)) in
    let low = first_is_least least greatest f first second last e (sym (names least (omega arith) (omega (arith, e.low, e.order, e.fits, e.high)))) in
    let high = last_is_greatest least greatest f first second last e (sym (names greatest (omega (arith, e.low, e.order, e.fits, e.high)) (omega arith))) in
    rw step (every_is least greatest first last low high)
shortest least greatest f first second last e (EveryNth n) names =
    elim (cases_Bool (is_stepwise n ((greatest + 1) - least))) [
      | inl whole ↦
          let s = spaced_nth least greatest n f whole names in
          let step = step_of first second n (second_is least greatest f first second last least greatest n e s) in
          let here : is_stepwise n (least - least) ≡ true = stepwise_of n (least - least) s.some (omega arith) in
          let hit : is_plain f least ≡ true = sym (names least (omega arith) (omega (arith, e.low, e.order, e.fits, e.high))) ∙ rw (whole, here) refl in
          let low = first_is_least least greatest f first second last e hit in
          rw step (nth_is least greatest first last n low whole (last_of_nth least greatest n f first second last e low whole names))
      | inr never ↦
          let miss : is_plain f first ≡ false = sym (names first e.low (omega (arith, e.order, e.fits, e.high))) ∙ rw never refl in
          let hit : is_plain f first ≡ true = e.first_plain in
          absurd (cc)
    ]
shortest least greatest f first second last e (One only) names =
    let a : eqb first only ≡ true = names first e.low (omega (arith, e.order, e.fits, e.high)) ∙ e.first_plain in
    let b : eqb second only ≡ true = names second (omega (arith, e.low, e.order)) (omega (arith, e.fits, e.high)) ∙ e.second_plain in
    let same_first : first ≡ only = grind (arith, nat_tests) in
    let same_second : second ≡ only = grind (arith, nat_tests) in
    absurd (omega (arith, e.order))
shortest least greatest f first second last e (Range a b) names =
    let step = step_of first second 1 (second_is least greatest f first second last a b 1 e (spaced_range least greatest a b f names)) in
    rw step (two_at_most least greatest first last)
shortest least greatest f first second last e (RangeNth a b n) names = four_at_most least greatest first last (second - first)

-- ---- where a piece names them, they lie evenly

pub even_where_named : (least greatest : ℕ) (f : Field) (first second last : ℕ) → AreEnds least greatest f first second last
    → (piece : Piece) → NamesPlain least greatest f piece → LieEvenly f first last (second - first)
even_where_named least greatest f first second last e Every names =
    let s = spaced_every least greatest f names in
    let step = step_of first second 1 (second_is least greatest f first second last least greatest 1 e s) in
    subst (λ d. LieEvenly f first last d) (sym step) (even_of least greatest f first second last least greatest 1 e s)
even_where_named least greatest f first second last e (EveryNth n) names =
    elim (cases_Bool (is_stepwise n ((greatest + 1) - least))) [
      | inl whole ↦
          let s = spaced_nth least greatest n f whole names in
          let step = step_of first second n (second_is least greatest f first second last least greatest n e s) in
          subst (λ d. LieEvenly f first last d) (sym step) (even_of least greatest f first second last least greatest n e s)
      | inr never ↦
          let miss : is_plain f first ≡ false = sym (names first e.low (omega (arith, e.order, e.fits, e.high))) ∙ rw never refl in
          let hit : is_plain f first ≡ true = e.first_plain in
          absurd (cc)
    ]
even_where_named least greatest f first second last e (One only) names =
    let a : eqb first only ≡ true = names first e.low (omega (arith, e.order, e.fits, e.high)) ∙ e.first_plain in
    let b : eqb second only ≡ true = names second (omega (arith, e.low, e.order)) (omega (arith, e.fits, e.high)) ∙ e.second_plain in
    let same_first : first ≡ only = grind (arith, nat_tests) in
    let same_second : second ≡ only = grind (arith, nat_tests) in
    absurd (omega (arith, e.order))
even_where_named least greatest f first second last e (Range a b) names =
    let s = spaced_range least greatest a b f names in
    let step = step_of first second 1 (second_is least greatest f first second last a b 1 e s) in
    subst (λ d. LieEvenly f first last d) (sym step) (even_of least greatest f first second last a b 1 e s)
even_where_named least greatest f first second last e (RangeNth a b n) names =
    let hit : (is_within a b first && is_stepwise n (first - a)) ≡ true = names first e.low (omega (arith, e.order, e.fits, e.high)) ∙ e.first_plain in
    let parts = and_parts (is_within a b first) (is_stepwise n (first - a)) hit in
    let s : Spaced least greatest f a b n = record { some = (rest_of_stepwise n (first - a) parts.1).some; is = λ value low high. sym (names value low high) } in
    let step = step_of first second n (second_is least greatest f first second last a b n e s) in
    subst (λ d. LieEvenly f first last d) (sym step) (even_of least greatest f first second last a b n e s)

-- ---- and the piece names them

below_none : (first last value step : ℕ) → value < first → (is_within first last value && is_stepwise step (value - first)) ≡ false
below_none first last value step low = let miss : leb first value ≡ false = grind (arith, nat_tests) in rw miss refl

above_none : (first last value : ℕ) → last < value → is_within first last value ≡ false
above_none first last value high = grind (arith, nat_tests)

range_nth_names : (least greatest : ℕ) (f : Field) (first second last step : ℕ) → AreEnds least greatest f first second last → LieEvenly f first last step
    → NamesPlain least greatest f (RangeNth first last step)
range_nth_names least greatest f first second last step e even value low high =
    elim (cases_lt value first) [
      | inl below ↦ below_none first last value step below ∙ sym (e.before value low below)
      | inr above ↦
          elim (cases_lt last value) [
            | inl beyond ↦ rw (above_none first last value beyond) (sym (e.after value beyond high))
            | inr inside ↦ rw (within_of first last value above inside) (sym (even value above inside))
          ]
    ]

range_names : (least greatest : ℕ) (f : Field) (first second last : ℕ) → AreEnds least greatest f first second last → LieEvenly f first last 1
    → NamesPlain least greatest f (Range first last)
range_names least greatest f first second last e even value low high =
    and_true (is_within first last value) (is_stepwise 1 (value - first)) (whole_of_one (value - first)) ∙ range_nth_names least greatest f first second last 1 e even value low high

every_names : (least greatest : ℕ) (f : Field) (first second last : ℕ) → AreEnds least greatest f first second last → LieEvenly f first last 1
    → first ≡ least → last ≡ greatest → NamesPlain least greatest f Every
every_names least greatest f first second last e even start end value low high =
    sym (even value (omega arith) (omega arith) ∙ whole_of_one (value - first))

nth_names : (least greatest : ℕ) (f : Field) (first second last step : ℕ) → AreEnds least greatest f first second last → LieEvenly f first last step
    → first ≡ least → is_stepwise step ((greatest + 1) - least) ≡ true → last + step ≡ greatest + 1 → NamesPlain least greatest f (EveryNth step)
nth_names least greatest f first second last step e even start whole end value low high =
    elim (cases_lt last value) [
      | inl beyond ↦
          let at_last : is_stepwise step (last - first) ≡ true = sym (even last (omega (arith, e.order, e.fits)) (omega arith)) ∙ e.last_plain in
          let rest : (value - first) % step ≡ (value - last) % step = from_later step first last value (omega (arith, e.order, e.fits)) (omega arith) (rest_of_stepwise step (last - first) at_last).rest in
          let small : (value - last) % step ≡ value - last = below_step step (value - last) (omega arith) in
          let miss : is_stepwise step (value - first) ≡ false = not_stepwise step (value - first) (value - last) (rest ∙ small) (omega arith) in
          subst (λ s. (is_stepwise step ((greatest + 1) - least) && is_stepwise step (value - s)) ≡ is_plain f value) start (rw (whole, miss) (sym (e.after value beyond high)))
      | inr inside ↦
          subst (λ s. (is_stepwise step ((greatest + 1) - least) && is_stepwise step (value - s)) ≡ is_plain f value) start (rw whole (sym (even value (omega arith) inside)))
    ]

number_of_test : (a b : ℕ) → eqb a b ≡ true → a ≡ b
number_of_test a b same = grind (arith, nat_tests)

names_cond : (least greatest : ℕ) (f : Field) (b : Bool) (x y : Piece) → (b ≡ true → NamesPlain least greatest f x) → NamesPlain least greatest f y → NamesPlain least greatest f (cond b x y)
names_cond least greatest f true x y p q = p refl
names_cond least greatest f false x y p q = q

pub names_them : (least greatest : ℕ) (f : Field) (first second last step : ℕ) → AreEnds least greatest f first second last → LieEvenly f first last step
    → NamesPlain least greatest f (stepped_piece least greatest first last step)
names_them least greatest f first second last step e even =
    names_cond least greatest f (eqb step 1) (cond (eqb first least && eqb last greatest) Every (Range first last))
    (cond (eqb first least && (is_stepwise step ((greatest + 1) - least) && eqb (last + step) (greatest + 1))) (EveryNth step) (RangeNth first last step))
    (λ one.
    let even_one : LieEvenly f first last 1 = subst (λ s. LieEvenly f first last s) (number_of_test step 1 one) even in
    names_cond least greatest f (eqb first least && eqb last greatest) Every (Range first last)
    (λ both. let parts = and_parts (eqb first least) (eqb last greatest) both in
    every_names least greatest f first second last e even_one (number_of_test first least parts.0) (number_of_test last greatest parts.1))
    (range_names least greatest f first second last e even_one))
    (names_cond least greatest f (eqb first least && (is_stepwise step ((greatest + 1) - least) && eqb (last + step) (greatest + 1))) (EveryNth step) (RangeNth first last step)
    (λ all.
    let parts = and_parts (eqb first least) (is_stepwise step ((greatest + 1) - least) && eqb (last + step) (greatest + 1)) all in
    let more = and_parts (is_stepwise step ((greatest + 1) - least)) (eqb (last + step) (greatest + 1)) parts.1 in
    nth_names least greatest f first second last step e even (number_of_test first least parts.0) more.0 (number_of_test (last + step) (greatest + 1) more.1))
    (range_nth_names least greatest f first second last step e even))

-- ---- and it lies in the field

fits_cond : (least greatest : ℕ) (b : Bool) (x y : Piece) → (b ≡ true → is_of_field least greatest x ≡ true) → (b ≡ false → is_of_field least greatest y ≡ true)
    → is_of_field least greatest (cond b x y) ≡ true
fits_cond least greatest true x y p q = p refl
fits_cond least greatest false x y p q = q refl

range_of : (least greatest : ℕ) (f : Field) (first second last : ℕ) → AreEnds least greatest f first second last → is_range_of least greatest first last ≡ true
range_of least greatest f first second last e =
    let low : leb least first ≡ true = grind (arith, nat_tests, e.low) in
    let rises : ltb first last ≡ true = grind (arith, nat_tests, e.order, e.fits) in
    let high : leb last greatest ≡ true = grind (arith, nat_tests, e.high) in
    rw (low, rises, high) refl

pub fits_field : (least greatest : ℕ) (f : Field) (first second last step : ℕ) → AreEnds least greatest f first second last → 0 < step → LieEvenly f first last step
    → is_of_field least greatest (stepped_piece least greatest first last step) ≡ true
fits_field least greatest f first second last step e some even =
    let range = range_of least greatest f first second last e in
    fits_cond least greatest (eqb step 1) (cond (eqb first least && eqb last greatest) Every (Range first last))
    (cond (eqb first least && (is_stepwise step ((greatest + 1) - least) && eqb (last + step) (greatest + 1))) (EveryNth step) (RangeNth first last step))
    (λ one. fits_cond least greatest (eqb first least && eqb last greatest) Every (Range first last) (λ both. refl) (λ not_both. range))
    (λ more.
    let above : ltb 1 step ≡ true = grind (arith, nat_tests) in
    fits_cond least greatest (eqb first least && (is_stepwise step ((greatest + 1) - least) && eqb (last + step) (greatest + 1))) (EveryNth step) (RangeNth first last step)
    (λ all.
    let parts = and_parts (eqb first least) (is_stepwise step ((greatest + 1) - least) && eqb (last + step) (greatest + 1)) all in
    let rest = and_parts (is_stepwise step ((greatest + 1) - least)) (eqb (last + step) (greatest + 1)) parts.1 in
    let start : first ≡ least = number_of_test first least parts.0 in
    let end : last + step ≡ greatest + 1 = number_of_test (last + step) (greatest + 1) rest.1 in
    let inside : ltb step ((greatest + 1) - least) ≡ true = grind (arith, nat_tests, e.order, e.fits) in
    rw (above, inside, rest.0) refl)
    (λ other.
    let reached : is_stepwise step (last - first) ≡ true = sym (even last (omega (arith, e.order, e.fits)) (omega arith)) ∙ e.last_plain in
    rw (range, above, reached) refl))
