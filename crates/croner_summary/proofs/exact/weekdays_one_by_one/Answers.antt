use Rattle.std.proofs.Common.{◌≡◌, [], ◌∷◌, ◌++◌, ap, sym, ◌∙◌, subst}
use Rattle.croner_pattern.specs.Schedule.{is_named}
use Rattle.croner_summary.specs.declared.phrase.Piece.TheVariants.{One}
use Rattle.croner_summary.specs.Order.{AreInOrder}
use Rattle.croner_summary.specs.Says.{is_in_some}
use Rattle.croner_summary.specs.Private.Exact.{ones_from}
use Rattle.croner_summary.proofs.OneByOne.{week_with, week_with_agrees, week_without, week_without_agrees}
use Rattle.croner_summary.proofs.exact.weekdays_one_by_one.Goals as goal
use Rattle.croner_summary.proofs.exact.weekdays_one_by_one.Goals.{then-has+in_ok-push, else-has}

pub returns-clause-ok : goal.returns-clause-ok
returns-clause-ok c =
    elim c.if-has.branch [
      | then-has+in_ok-push w ↦
          let are : c.if-has.pieces.items ≡ ones_from (is_named c.args.bit c.args.field.now) 1 6 ++ One 0 ∷ [] =
          ap (λ v. v.items) w.pieces-is ∙ w.in_ok-push.ensures.items ∙ ap (λ items. items ++ One 0 ∷ []) c.in_ok-pieces.ensures.ok in
          λ value low high. ap (λ items. is_in_some 0 6 items value) are ∙ week_with_agrees (is_named c.args.bit c.args.field.now) value (sym c.has.ensures ∙ w.if-has.true) high
      | else-has w ↦
          let are : c.if-has.pieces.items ≡ ones_from (is_named c.args.bit c.args.field.now) 1 6 = ap (λ v. v.items) w.pieces-is ∙ c.in_ok-pieces.ensures.ok in
          λ value low high. ap (λ items. is_in_some 0 6 items value) are ∙ week_without_agrees (is_named c.args.bit c.args.field.now) value (sym c.has.ensures ∙ w.if-has.false) high
    ]

pub returns-clause-ordered : goal.returns-clause-ordered
returns-clause-ordered c =
    elim c.if-has.branch [
      | then-has+in_ok-push w ↦
          let are : c.if-has.pieces.items ≡ ones_from (is_named c.args.bit c.args.field.now) 1 6 ++ One 0 ∷ [] =
          ap (λ v. v.items) w.pieces-is ∙ w.in_ok-push.ensures.items ∙ ap (λ items. items ++ One 0 ∷ []) c.in_ok-pieces.ensures.ok in
          subst (λ items. AreInOrder 0 6 items) (sym are) (week_with (is_named c.args.bit c.args.field.now))
      | else-has w ↦
          let are : c.if-has.pieces.items ≡ ones_from (is_named c.args.bit c.args.field.now) 1 6 = ap (λ v. v.items) w.pieces-is ∙ c.in_ok-pieces.ensures.ok in
          subst (λ items. AreInOrder 0 6 items) (sym are) (week_without (is_named c.args.bit c.args.field.now))
    ]
