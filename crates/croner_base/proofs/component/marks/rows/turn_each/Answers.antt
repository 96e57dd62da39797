use Rattle.std.proofs.Common.{arith, length, ap, ◌∙◌}
use Rattle.croner_base.proofs.words.ModifiersInTurn.{turns_skip, turns_more}
use Rattle.croner_base.proofs.words.TurnedMarks.{one_turned}
use Rattle.croner_base.proofs.component.marks.rows.turn_each.Goals as goal
use Rattle.croner_base.proofs.component.marks.rows.turn_each.Goals.{then-bits-k-eq1, else-bits-k-eq1}

pub loop-k-preserved : goal.loop-k-preserved
loop-k-preserved c = elim c.if-bits-k-eq1.branch [
  | then-bits-k-eq1 w ↦ record {
    rows = ap length w.words-is ∙ w.turn.ensures.rows ∙ c.loop-k.invariant.rows;
    done = rw w.words-is (turns_more _ _ _ _ _ c.loop-k.k _ w.if-bits-k-eq1.true c.loop-k.invariant.done w.turn.ensures.turned);
    past = rw w.words-is (λ none. w.turn.ensures.past (c.loop-k.invariant.past none));
  }
  | else-bits-k-eq1 w ↦ record {
    rows = ap length w.words-is ∙ c.loop-k.invariant.rows;
    done = rw w.words-is (turns_skip _ _ _ _ c.loop-k.k _ w.if-bits-k-eq1.false c.loop-k.invariant.done);
    past = rw w.words-is c.loop-k.invariant.past;
  }
]

pub returns-clause-turned : goal.returns-clause-turned
returns-clause-turned c = one_turned c.args.on _ _ _ _ _ _ c.loop-k.k c.requires.within (omega arith) c.ranges.bits.fits c.loop-k.invariant.done
