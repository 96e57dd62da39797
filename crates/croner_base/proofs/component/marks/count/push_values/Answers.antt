use Rattle.std.proofs.Common.{true, false, ap, sym, ◌∙◌, eq-eqb}
use Rattle.std.proofs.lemmas.Bool.{ne_eqb}
use Rattle.std.proofs.lemmas.List.{append-nil}
use Rattle.croner_base.proofs.words.Counting.{values_more}
use Rattle.croner_base.proofs.component.marks.count.push_values.Goals as goal
use Rattle.croner_base.proofs.component.marks.count.push_values.Goals.{then-word-b-eq1+in_ok-push, else-word-b-eq1}

pub loop-b-preserved : goal.loop-b-preserved
loop-b-preserved c = elim c.if-word-b-eq1.branch [
  | then-word-b-eq1+in_ok-push w ↦
      values_more _ _ c.loop-b.b _ _ _ true (eq-eqb _ 1 w.if-word-b-eq1.true)
      c.loop-b.invariant (ap (λ v. v.items) w.values-is ∙ w.in_ok-push.ensures.items)
  | else-word-b-eq1 w ↦
      values_more _ _ c.loop-b.b _ _ _ false (ne_eqb _ 1 w.if-word-b-eq1.false)
      c.loop-b.invariant (ap (λ v. v.items) w.values-is ∙ sym (append-nil _))
]
