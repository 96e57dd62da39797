use Rattle.std.proofs.Common.{sym, ◌∙◌}
use Rattle.croner_base.specs.Private.words.Rows.{marks_in}
use Rattle.croner_base.proofs.words.Counting.{any_skip, any_more}
use Rattle.croner_base.proofs.words.Sums.{sums_bit}
use Rattle.croner_base.proofs.component.marks.rows.values_with_any.Goals as goal
use Rattle.croner_base.proofs.component.marks.rows.values_with_any.Goals.{then-bits-k-eq1, else-bits-k-eq1}

pub loop-k-preserved : goal.loop-k-preserved
loop-k-preserved c = elim c.if-bits-k-eq1.branch [
  | then-bits-k-eq1 w ↦
      rw w.found-is (any_more (marks_in c.args.words.now c.args.max c.args.supported) _ _ _ c.loop-k.k _ w.if-bits-k-eq1.true c.loop-k.invariant
      (λ b h here. w.word-found.ensures b h ∙ sym (sums_bit c.args.words.now c.args.max c.args.supported _ c.loop-k.k here c.loop-k-test.true)))
  | else-bits-k-eq1 w ↦ rw w.found-is (any_skip (marks_in c.args.words.now c.args.max c.args.supported) _ _ _ c.loop-k.k w.if-bits-k-eq1.false c.loop-k.invariant)
]
