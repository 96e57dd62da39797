use Rattle.std.proofs.Common.{refl, arith}
use Rattle.croner_summary.proofs.NextValues.{agree_next, once_next}
use Rattle.croner_summary.proofs.plain.name_plain_exactly.Goals as goal

pub loop-from-preserved : goal.loop-from-preserved
loop-from-preserved c = record {
  low = omega (arith, c.loop-from.invariant.low, c.next_plain-next.ensures.above);
  agree = agree_next c.args.least c.args.greatest c.args.pieces.now c.args.field.now c.loop-from.from c.next_plain-next.result c.loop-from.invariant.agree c.next_plain-next.ensures (c.if-not-step_agrees.ensures refl);
  once = once_next c.args.least c.args.greatest c.args.pieces.now c.args.field.now c.loop-from.from c.next_plain-next.result c.loop-from.invariant.once c.next_plain-next.ensures (c.if-not-step_agrees.ensures refl);
}
