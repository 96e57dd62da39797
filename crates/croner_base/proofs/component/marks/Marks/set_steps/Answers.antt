use Rattle.std.proofs.Common.{arith}
use Rattle.croner_base.proofs.words.ModifiersInTurn.{turns_skip, turns_more}
use Rattle.croner_base.proofs.words.TurnedMarks.{gains}
use Rattle.croner_base.proofs.component.marks.Marks.set_steps.Goals as goal
use Rattle.croner_base.proofs.component.marks.Marks.set_steps.Goals.{then-bits-k-eq1, else-bits-k-eq1}

pub loop-k-preserved : goal.loop-k-preserved
loop-k-preserved c = elim c.if-bits-k-eq1.branch [
  | then-bits-k-eq1 w ↦ rw w.self-is (turns_more 1 _ _ _ _ c.loop-k.k _ w.if-bits-k-eq1.true c.loop-k.invariant w.set_steps_of.ensures)
  | else-bits-k-eq1 w ↦ rw w.self-is (turns_skip 1 _ _ _ c.loop-k.k _ w.if-bits-k-eq1.false c.loop-k.invariant)
]

pub returns : goal.returns
returns c = gains _ _ _ c.loop-k.k _ (omega arith) c.ranges.bits.fits c.loop-k.invariant
