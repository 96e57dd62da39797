-- Values that pass a test, each by itself: what they name, and that they stand in order.
use Rattle.std.proofs.Common.{◌≡◌, ℕ, zero, suc, ◌+◌, ◌-◌, ◌<◌, ◌≤◌, Bool, true, false, ◌&&◌, ◌||◌, cond, eqb, leb, ltb, List, [], ◌∷◌, ◌++◌, append-nil, refl, ap, sym, ◌∙◌, subst, arith, inl, inr, Result, Ok, Err, IfOk}
use Rattle.std.specs.declared.vec.Vec.{Vec}
use Rattle.std.specs.declared.alloc.Global.{Global}
use Rattle.std.specs.Int.{from_bool}
use Rattle.std.specs.List.{list_all}
use Rattle.std.proofs.lemmas.Bool.{and_parts, cases_Bool, cases_eq}
use Rattle.std.proofs.lemmas.Bool.Decides.{nat_tests}
use Rattle.std.proofs.lemmas.List.Sums.{sum_by-append, sum_by-cons}
use Rattle.std.proofs.lemmas.List.Folds.{list_all-append, list_any-append}
use Rattle.croner_base.specs.declared.errors.CronError.{CronError}
use Rattle.croner_base.specs.Field.{Field}
use Rattle.croner_pattern.specs.Schedule.{is_named}
use Rattle.croner_summary.specs.declared.phrase.Piece.{Piece}
use Rattle.croner_summary.specs.declared.phrase.Piece.TheVariants.{One}
use Rattle.croner_summary.specs.Order.{AreInOrder, beside_step, is_of_field, place_of, rise_from, times_named}
use Rattle.croner_summary.specs.Says.{is_in, is_in_some}
use Rattle.croner_summary.specs.Private.Exact.{AgreeBelow, NamesRightly, ones_from}
use Rattle.croner_summary.proofs.Exactly.{and_false, or_false, or_true}

-- ---- how often a value is named

times_cons : (least greatest : ℕ) (piece : Piece) (more : List Piece) (value : ℕ)
    → times_named least greatest (piece ∷ more) value ≡ cond (is_in least greatest piece value) 1 0 + times_named least greatest more value
times_cons least greatest piece more value = sum_by-cons (λ p. cond (is_in least greatest p value) 1 0) piece more

times_append : (least greatest : ℕ) (pieces more : List Piece) (value : ℕ)
    → times_named least greatest (pieces ++ more) value ≡ times_named least greatest pieces value + times_named least greatest more value
times_append least greatest pieces more value = sum_by-append (λ p. cond (is_in least greatest p value) 1 0) pieces more

-- a value is named where it is named some times
pub in_some_by_times : (least greatest : ℕ) (pieces : List Piece) (value : ℕ)
    → is_in_some least greatest pieces value ≡ ltb 0 (times_named least greatest pieces value)
in_some_by_times least greatest [] value = refl
in_some_by_times least greatest (piece ∷ more) value =
    let all = times_cons least greatest piece more value in
    let rest = in_some_by_times least greatest more value in
    elim (cases_Bool (is_in least greatest piece value)) [
      | inl hit ↦
          let count : times_named least greatest (piece ∷ more) value ≡ 1 + times_named least greatest more value = all ∙ rw hit refl in
          let some : ltb 0 (times_named least greatest (piece ∷ more) value) ≡ true = grind (arith, nat_tests) in
          ap (λ b. b || is_in_some least greatest more value) hit ∙ sym some
      | inr miss ↦
          let count : times_named least greatest (piece ∷ more) value ≡ 0 + times_named least greatest more value = all ∙ rw miss refl in
          let same : times_named least greatest (piece ∷ more) value ≡ times_named least greatest more value = omega arith in
          ap (λ b. b || is_in_some least greatest more value) miss ∙ rest ∙ ap (ltb 0) (sym same)
    ]

pub never_named : (least greatest : ℕ) (pieces : List Piece) (value : ℕ) → is_in_some least greatest pieces value ≡ false → times_named least greatest pieces value ≡ 0
never_named least greatest pieces value miss =
    let none : ltb 0 (times_named least greatest pieces value) ≡ false = sym (in_some_by_times least greatest pieces value) ∙ miss in
    grind (arith, nat_tests)

-- a value that is named as often as it is to be
pub rightly : (least greatest : ℕ) (pieces : List Piece) (value : ℕ) (named : Bool) → times_named least greatest pieces value ≡ from_bool named
    → NamesRightly least greatest pieces value named
rightly least greatest pieces value true is =
    let some : ltb 0 (times_named least greatest pieces value) ≡ true = grind (arith, nat_tests) in
    record { agrees = in_some_by_times least greatest pieces value ∙ some; once = omega arith }
rightly least greatest pieces value false is =
    let none : ltb 0 (times_named least greatest pieces value) ≡ false = grind (arith, nat_tests) in
    record { agrees = in_some_by_times least greatest pieces value ∙ none; once = omega arith }

-- ---- values by themselves

pub ones_none : (test : ℕ → Bool) (from : ℕ) → ones_from test from 0 ≡ []
unfolding ones_from
ones_none test from = refl

-- one value more
pub ones_more : (test : ℕ → Bool) (from count : ℕ) → ones_from test from (count + 1) ≡ ones_from test from count ++ cond (test (from + count)) (One (from + count) ∷ []) []
unfolding ones_from
ones_more test from zero =
    let here : from + 0 ≡ from = omega arith in
    elim (cases_Bool (test from)) [ inl hit ↦ rw (here, hit) refl | inr miss ↦ rw (here, miss) refl ]
ones_more test from (suc count) =
    let long : suc count + 1 ≡ suc (count + 1) = omega arith in
    let there : (from + 1) + count ≡ from + suc count = omega arith in
    let rest = ones_more test (from + 1) count in
    let more : ones_from test (from + 1) (count + 1) ≡ ones_from test (from + 1) count ++ cond (test (from + suc count)) (One (from + suc count) ∷ []) [] =
    rest ∙ ap (λ end. ones_from test (from + 1) count ++ cond (test end) (One end ∷ []) []) there in
    ap (ones_from test from) long
    ∙ elim (cases_Bool (test from)) as (λ _. ones_from test from (suc (count + 1)) ≡ ones_from test from (suc count) ++ cond (test (from + suc count)) (One (from + suc count) ∷ []) []) [
      | inl hit ↦ rw hit (ap (λ pieces. One from ∷ pieces) more)
      | inr miss ↦ rw miss more
    ]

-- one more of them was looked at
pub one_pushed : (test : ℕ → Bool) (from value : ℕ) (old new : List Piece) → from ≤ value → old ≡ ones_from test from (value - from)
    → test value ≡ true → new ≡ old ++ One value ∷ [] → new ≡ ones_from test from ((value + 1) - from)
one_pushed test from value old new low before hit is =
    let far : (value + 1) - from ≡ (value - from) + 1 = omega arith in
    let there : from + (value - from) ≡ value = omega arith in
    let more : ones_from test from ((value + 1) - from) ≡ ones_from test from (value - from) ++ cond (test value) (One value ∷ []) [] =
    ap (ones_from test from) far ∙ ones_more test from (value - from) ∙ ap (λ end. ones_from test from (value - from) ++ cond (test end) (One end ∷ []) []) there in
    is ∙ ap (λ pieces. pieces ++ One value ∷ []) before ∙ sym (more ∙ ap (λ b. ones_from test from (value - from) ++ cond b (One value ∷ []) []) hit)

pub one_passed : (test : ℕ → Bool) (from value : ℕ) (old new : List Piece) → from ≤ value → old ≡ ones_from test from (value - from)
    → test value ≡ false → new ≡ old → new ≡ ones_from test from ((value + 1) - from)
one_passed test from value old new low before miss is =
    let far : (value + 1) - from ≡ (value - from) + 1 = omega arith in
    let there : from + (value - from) ≡ value = omega arith in
    let more : ones_from test from ((value + 1) - from) ≡ ones_from test from (value - from) ++ cond (test value) (One value ∷ []) [] =
    ap (ones_from test from) far ∙ ones_more test from (value - from) ∙ ap (λ end. ones_from test from (value - from) ++ cond (test end) (One end ∷ []) []) there in
    is ∙ before ∙ sym (more ∙ ap (λ b. ones_from test from (value - from) ++ cond b (One value ∷ []) []) miss ∙ append-nil (ones_from test from (value - from)))

later_bounds : (from count value : ℕ) → (value ≡ from → ⊥)
    → (leb (from + 1) value && ltb value ((from + 1) + count)) ≡ (leb from value && ltb value (from + suc count))
later_bounds from count value other =
    let low : leb (from + 1) value ≡ leb from value = grind (arith, nat_tests) in
    let there : (from + 1) + count ≡ from + suc count = omega arith in
    let high : ltb value ((from + 1) + count) ≡ ltb value (from + suc count) = ap (ltb value) there in
    rw (low, high) refl

-- they name the values that pass
pub ones_name : (least greatest : ℕ) (test : ℕ → Bool) (from count value : ℕ)
    → is_in_some least greatest (ones_from test from count) value ≡ ((leb from value && ltb value (from + count)) && test value)
unfolding ones_from
ones_name least greatest test from zero value =
    let none : (leb from value && ltb value (from + 0)) ≡ false = grind (arith, nat_tests) in
    rw none refl
ones_name least greatest test from (suc count) value =
    let rest = ones_name least greatest test (from + 1) count value in
    elim (cases_eq value from) [
      | inl same ↦
          let own : eqb value from ≡ true = grind (arith, nat_tests) in
          let inside : (leb from value && ltb value (from + suc count)) ≡ true = grind (arith, nat_tests) in
          let before : (leb (from + 1) value && ltb value ((from + 1) + count)) ≡ false = grind (arith, nat_tests) in
          let none : is_in_some least greatest (ones_from test (from + 1) count) value ≡ false = rest ∙ rw before refl in
          elim (cases_Bool (test from)) [
            | inl hit ↦ let here : test value ≡ true = ap test same ∙ hit in rw hit (rw own (sym (rw (inside, here) refl)))
            | inr miss ↦ let here : test value ≡ false = ap test same ∙ miss in rw miss (none ∙ sym (rw (inside, here) refl))
          ]
      | inr other ↦
          let own : eqb value from ≡ false = grind (arith, nat_tests) in
          let all : is_in_some least greatest (ones_from test (from + 1) count) value ≡ ((leb from value && ltb value (from + suc count)) && test value) =
          rest ∙ ap (λ b. b && test value) (later_bounds from count value other) in
          elim (cases_Bool (test from)) [
            | inl hit ↦ rw hit (rw own all)
            | inr miss ↦ rw miss all
          ]
    ]

ones_name_later : (least greatest : ℕ) (test : ℕ → Bool) (from count value : ℕ) → value < from → times_named least greatest (ones_from test from count) value ≡ 0
ones_name_later least greatest test from count value before =
    let out : (leb from value && ltb value (from + count)) ≡ false = grind (arith, nat_tests) in
    never_named least greatest (ones_from test from count) value (ones_name least greatest test from count value ∙ rw out refl)

-- once at most
ones_once : (least greatest : ℕ) (test : ℕ → Bool) (from count value : ℕ) → times_named least greatest (ones_from test from count) value ≤ 1
unfolding ones_from
ones_once least greatest test from zero value = omega arith
ones_once least greatest test from (suc count) value =
    let more = ones_once least greatest test (from + 1) count value in
    let all = times_cons least greatest (One from) (ones_from test (from + 1) count) value in
    elim (cases_Bool (test from)) [
      | inr miss ↦ rw miss more
      | inl hit ↦
          elim (cases_eq value from) [
            | inl same ↦
                let own : eqb value from ≡ true = grind (arith, nat_tests) in
                let none : times_named least greatest (ones_from test (from + 1) count) value ≡ 0 = ones_name_later least greatest test (from + 1) count value (omega arith) in
                let sum : times_named least greatest (One from ∷ ones_from test (from + 1) count) value ≡ 1 + times_named least greatest (ones_from test (from + 1) count) value = all ∙ rw own refl in
                rw hit (omega (arith, sum, none))
            | inr other ↦
                let own : eqb value from ≡ false = grind (arith, nat_tests) in
                let sum : times_named least greatest (One from ∷ ones_from test (from + 1) count) value ≡ 0 + times_named least greatest (ones_from test (from + 1) count) value = all ∙ rw own refl in
                rw hit (omega (arith, sum, more))
          ]
    ]

-- each lies in the field
ones_within : (least greatest : ℕ) (test : ℕ → Bool) (from count : ℕ) → least ≤ from → from + count ≤ greatest + 1
    → list_all (λ piece. is_of_field least greatest piece) (ones_from test from count) ≡ true
unfolding ones_from
ones_within least greatest test from zero low high = refl
ones_within least greatest test from (suc count) low high =
    let more = ones_within least greatest test (from + 1) count (omega arith) (omega arith) in
    let own : (leb least from && leb from greatest) ≡ true = grind (arith, nat_tests) in
    elim (cases_Bool (test from)) [ inl hit ↦ rw hit (rw own more) | inr miss ↦ rw miss more ]

-- and they rise, before others that rise from there on
ones_rise : (least greatest : ℕ) (test : ℕ → Bool) (from count start : ℕ) (others : List Piece) → start ≤ from
    → ((value : ℕ) → from ≤ value → place_of greatest value ≡ value)
    → ((reached : ℕ) → reached ≤ from + count → rise_from least greatest reached others ≡ true)
    → rise_from least greatest start (ones_from test from count ++ others) ≡ true
unfolding ones_from
ones_rise least greatest test from zero start others low place rest = rest start (omega arith)
ones_rise least greatest test from (suc count) start others low place rest =
    elim (cases_Bool (test from)) [
      | inl hit ↦
          let own : place_of greatest from ≡ from = place from (omega arith) in
          let from_start : leb start from ≡ true = grind (arith, nat_tests) in
          let more : rise_from least greatest (from + 1) (ones_from test (from + 1) count ++ others) ≡ true =
          ones_rise least greatest test (from + 1) count (from + 1) others (omega arith) (λ value above. place value (omega arith)) (λ reached high. rest reached (omega arith)) in
          rw hit (rw own (rw from_start more))
      | inr miss ↦
          rw miss (ones_rise least greatest test (from + 1) count start others (omega arith) (λ value above. place value (omega arith)) (λ reached high. rest reached (omega arith)))
    ]

ones_beside : (test : ℕ → Bool) (from count : ℕ) (others : List Piece) → beside_step others ≡ others → beside_step (ones_from test from count ++ others) ≡ ones_from test from count ++ others
unfolding ones_from
ones_beside test from zero others same = same
ones_beside test from (suc count) others same =
    elim (cases_Bool (test from)) [ inl hit ↦ rw hit refl | inr miss ↦ rw miss (ones_beside test (from + 1) count others same) ]

-- ---- a whole field

place_is_value : (greatest value : ℕ) → (greatest ≡ 6 → value ≡ 0 → ⊥) → place_of greatest value ≡ value
place_is_value greatest value other =
    elim (cases_eq greatest 6) [
      | inl week ↦
          elim (cases_eq value 0) [
            | inl sunday ↦ absurd (other week sunday)
            | inr later ↦ let no : eqb value 0 ≡ false = grind (arith, nat_tests) in rw no (rw (and_false (eqb greatest 6)) refl)
          ]
      | inr else ↦ let no : eqb greatest 6 ≡ false = grind (arith, nat_tests) in rw no refl
    ]

-- each value of a field by itself, but for the week
pub ones_in_order : (least greatest : ℕ) (test : ℕ → Bool) → least ≤ greatest → (greatest ≡ 6 → least ≡ 0 → ⊥)
    → AreInOrder least greatest (ones_from test least ((greatest + 1) - least))
ones_in_order least greatest test order other =
    let nil : ones_from test least ((greatest + 1) - least) ++ [] ≡ ones_from test least ((greatest + 1) - least) = append-nil (ones_from test least ((greatest + 1) - least)) in
    let same : beside_step (ones_from test least ((greatest + 1) - least) ++ []) ≡ ones_from test least ((greatest + 1) - least) ++ [] =
    ones_beside test least ((greatest + 1) - least) [] refl in
    let up : rise_from least greatest least (ones_from test least ((greatest + 1) - least) ++ []) ≡ true =
    ones_rise least greatest test least ((greatest + 1) - least) least [] (omega arith) (λ value above. place_is_value greatest value (λ week sunday. other week (omega arith))) (λ reached high. refl) in
    record {
      within = ones_within least greatest test least ((greatest + 1) - least) (omega arith) (omega arith);
      once = λ value low high. ones_once least greatest test least ((greatest + 1) - least) value;
      rising = subst (λ pieces. rise_from least greatest least (beside_step pieces) ≡ true) nil (ap (rise_from least greatest least) same ∙ up);
    }

pub ones_agree : (least greatest : ℕ) (test : ℕ → Bool) (value : ℕ) → least ≤ value → value < greatest + 1
    → is_in_some least greatest (ones_from test least ((greatest + 1) - least)) value ≡ test value
ones_agree least greatest test value low high =
    let inside : (leb least value && ltb value (least + ((greatest + 1) - least))) ≡ true = grind (arith, nat_tests) in
    ones_name least greatest test least ((greatest + 1) - least) value ∙ rw inside refl

-- the week, without Sunday
pub week_without : (test : ℕ → Bool) → AreInOrder 0 6 (ones_from test 1 6)
week_without test =
    let nil : ones_from test 1 6 ++ [] ≡ ones_from test 1 6 = append-nil (ones_from test 1 6) in
    let same : beside_step (ones_from test 1 6 ++ []) ≡ ones_from test 1 6 ++ [] = ones_beside test 1 6 [] refl in
    let up : rise_from 0 6 0 (ones_from test 1 6 ++ []) ≡ true =
    ones_rise 0 6 test 1 6 0 [] (omega arith) (λ value above. place_is_value 6 value (λ week sunday. omega arith)) (λ reached high. refl) in
    record {
      within = ones_within 0 6 test 1 6 (omega arith) (omega arith);
      once = λ value low high. ones_once 0 6 test 1 6 value;
      rising = subst (λ pieces. rise_from 0 6 0 (beside_step pieces) ≡ true) nil (ap (rise_from 0 6 0) same ∙ up);
    }

pub week_without_agrees : (test : ℕ → Bool) (value : ℕ) → test 0 ≡ false → value < 7 → is_in_some 0 6 (ones_from test 1 6) value ≡ test value
week_without_agrees test value none high =
    ones_name 0 6 test 1 6 value
    ∙ elim (cases_eq value 0) [
      | inl sunday ↦
          let here : test value ≡ false = ap test sunday ∙ none in
          rw here (and_false (leb 1 value && ltb value (1 + 6)))
      | inr later ↦
          let inside : (leb 1 value && ltb value (1 + 6)) ≡ true = grind (arith, nat_tests) in
          rw inside refl
    ]

-- and with Sunday, which comes last
pub week_with : (test : ℕ → Bool) → AreInOrder 0 6 (ones_from test 1 6 ++ One 0 ∷ [])
week_with test =
    let same : beside_step (ones_from test 1 6 ++ One 0 ∷ []) ≡ ones_from test 1 6 ++ One 0 ∷ [] = ones_beside test 1 6 (One 0 ∷ []) refl in
    let up : rise_from 0 6 0 (ones_from test 1 6 ++ One 0 ∷ []) ≡ true =
    ones_rise 0 6 test 1 6 0 (One 0 ∷ []) (omega arith) (λ value above. place_is_value 6 value (λ week sunday. omega arith))
    (λ reached high. let fits : leb reached 7 ≡ true = grind (arith, nat_tests) in rw fits refl) in
    record {
      within = list_all-append (λ piece. is_of_field 0 6 piece) (ones_from test 1 6) (One 0 ∷ []) ∙ rw (ones_within 0 6 test 1 6 (omega arith) (omega arith)) refl;
      once = λ value low high.
          let all = times_append 0 6 (ones_from test 1 6) (One 0 ∷ []) value in
          let few = ones_once 0 6 test 1 6 value in
          elim (cases_eq value 0) [
            | inl sunday ↦
                let own : eqb value 0 ≡ true = grind (arith, nat_tests) in
                let none : times_named 0 6 (ones_from test 1 6) value ≡ 0 = ones_name_later 0 6 test 1 6 value (omega arith) in
                let sum : times_named 0 6 (One 0 ∷ []) value ≡ 1 + 0 = times_cons 0 6 (One 0) [] value ∙ rw own refl in
                omega (arith, all, none, sum)
            | inr later ↦
                let own : eqb value 0 ≡ false = grind (arith, nat_tests) in
                let sum : times_named 0 6 (One 0 ∷ []) value ≡ 0 + 0 = times_cons 0 6 (One 0) [] value ∙ rw own refl in
                omega (arith, all, few, sum)
          ];
      rising = ap (rise_from 0 6 0) same ∙ up;
    }

pub week_with_agrees : (test : ℕ → Bool) (value : ℕ) → test 0 ≡ true → value < 7 → is_in_some 0 6 (ones_from test 1 6 ++ One 0 ∷ []) value ≡ test value
week_with_agrees test value hit high =
    list_any-append (λ piece. is_in 0 6 piece value) (ones_from test 1 6) (One 0 ∷ [])
    ∙ elim (cases_eq value 0) [
      | inl sunday ↦
          let own : eqb value 0 ≡ true = grind (arith, nat_tests) in
          let here : test value ≡ true = ap test sunday ∙ hit in
          rw (own, here) (or_true (is_in_some 0 6 (ones_from test 1 6) value))
      | inr later ↦
          let own : eqb value 0 ≡ false = grind (arith, nat_tests) in
          let inside : (leb 1 value && ltb value (1 + 6)) ≡ true = grind (arith, nat_tests) in
          let named : is_in_some 0 6 (ones_from test 1 6) value ≡ test value = ones_name 0 6 test 1 6 value ∙ rw inside refl in
          rw own (or_false (is_in_some 0 6 (ones_from test 1 6) value) ∙ named)
    ]

-- ---- what a call answers

pub answers_agree : (least greatest bit : ℕ) (f : Field) (answer : Result (Vec Piece Global) CronError)
    → IfOk answer (λ pieces. pieces.items ≡ ones_from (is_named bit f) least ((greatest + 1) - least))
    → IfOk answer (λ pieces. AgreeBelow least greatest pieces.items bit f (greatest + 1))
answers_agree least greatest bit f (Ok pieces) are =
    λ value low high. ap (λ items. is_in_some least greatest items value) are ∙ ones_agree least greatest (is_named bit f) value low high
answers_agree least greatest bit f (Err e) are = are

pub answers_ordered : (least greatest : ℕ) (test : ℕ → Bool) (answer : Result (Vec Piece Global) CronError) → least ≤ greatest → (greatest ≡ 6 → least ≡ 0 → ⊥)
    → IfOk answer (λ pieces. pieces.items ≡ ones_from test least ((greatest + 1) - least)) → IfOk answer (λ pieces. AreInOrder least greatest pieces.items)
answers_ordered least greatest test (Ok pieces) order other are = subst (λ items. AreInOrder least greatest items) (sym are) (ones_in_order least greatest test order other)
answers_ordered least greatest test (Err e) order other are = are
