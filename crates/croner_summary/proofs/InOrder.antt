-- Phrases whose pieces stand in order.
use Rattle.std.proofs.Common.{◌≡◌, ℕ, ◌-◌, Bool, true, false, ◌&&◌, eqb, leb, ltb, List, [], ◌∷◌, refl, ap, sym, ◌∙◌, subst, arith, inl, inr, Result, Ok, Err, IfOk}
use Rattle.std.proofs.lemmas.Bool.{and_parts, cases_Bool}
use Rattle.std.proofs.lemmas.Bool.Decides.{nat_tests}
use Rattle.std.proofs.lemmas.List.Sums.{count_by-le-length}
use Rattle.croner_base.specs.declared.errors.CronError.{CronError}
use Rattle.croner_base.specs.Field.{Field}
use Rattle.croner_summary.specs.declared.phrase.Phrase.{Phrase}
use Rattle.croner_summary.specs.declared.phrase.Piece.{Piece}
use Rattle.croner_summary.specs.declared.phrase.Piece.TheVariants.{Every, EveryNth, One, Range, RangeNth}
use Rattle.croner_summary.specs.Order.{AreInOrder, IsInOrder, beside_step, is_of_field, is_range_of, place_of, rise_from}
use Rattle.croner_summary.specs.Says.{is_in, is_stepwise}
use Rattle.croner_summary.specs.Private.Spacing.{IsBestPiece}

-- the first value of a range isn't below the least
range_low : (least greatest first last : ℕ) → is_range_of least greatest first last ≡ true → leb least first ≡ true
range_low least greatest first last fits = (and_parts (leb least first) (ltb first last && leb last greatest) fits).0

one_rises : (least greatest : ℕ) (piece : Piece) → is_of_field least greatest piece ≡ true → rise_from least greatest least (beside_step (piece ∷ [])) ≡ true
one_rises least greatest Every fits = let low : leb least least ≡ true = grind (arith, nat_tests) in rw low refl
one_rises least greatest (EveryNth n) fits = refl
one_rises least greatest (One value) fits =
    let low : leb least value ≡ true = (and_parts (leb least value) (leb value greatest) fits).0 in
    elim (cases_Bool (eqb greatest 6 && eqb value 0)) [
      | inl sunday ↦
          let at : eqb value 0 ≡ true = (and_parts (eqb greatest 6) (eqb value 0) sunday).1 in
          let below : leb least 7 ≡ true = grind (arith, nat_tests) in
          rw sunday (rw below refl)
      | inr other ↦ rw other (rw low refl)
    ]
one_rises least greatest (Range first last) fits = rw (range_low least greatest first last fits) refl
one_rises least greatest (RangeNth first last n) fits =
    rw (range_low least greatest first last (and_parts (is_range_of least greatest first last) (ltb 1 n && is_stepwise n (last - first)) fits).0) refl

-- one piece of the field
pub one_in_order : (least greatest : ℕ) (piece : Piece) → is_of_field least greatest piece ≡ true → AreInOrder least greatest (piece ∷ [])
one_in_order least greatest piece fits = record {
  within = rw fits refl;
  once = λ value low high. count_by-le-length (λ p. is_in least greatest p value) (piece ∷ []);
  rising = one_rises least greatest piece fits;
}

pub none_in_order : (least greatest : ℕ) → AreInOrder least greatest []
none_in_order least greatest = record { within = refl; once = λ value low high. omega arith; rising = refl }

pub every_in_order : (least greatest : ℕ) → AreInOrder least greatest (Every ∷ [])
every_in_order least greatest = one_in_order least greatest Every refl

-- what a call answers
pub answers_in_order : (least greatest : ℕ) (f : Field) (piece : Piece) (answer : Result Phrase CronError) → IfOk answer (λ phrase. phrase.pieces.items ≡ piece ∷ [])
    → IsBestPiece least greatest f piece → IfOk answer (IsInOrder least greatest)
answers_in_order least greatest f piece (Ok phrase) are best = subst (λ pieces. AreInOrder least greatest pieces) (sym are) (one_in_order least greatest piece best.within)
answers_in_order least greatest f piece (Err e) are best = are
