use Rattle.std.proofs.Common.{arith}
use Rattle.std.proofs.lemmas.Nat.{ones-le}
use Rattle.croner_base.proofs.words.Counting.{count_step}
use Rattle.croner_base.proofs.component.marks.Marks.count_from.Goals as goal

pub loop-i-preserved : goal.loop-i-preserved
loop-i-preserved c =
    let few = ones-le 64 c.values_marked_from-in-loop-i.result c.values_marked_from-in-loop-i.type_inv in
    let step = count_step c.args.self.now c.args.bits c.args.first c.loop-i.i c.values_marked_from-in-loop-i.result c.values_marked_from-in-loop-i.ensures c.values_marked_from-in-loop-i.type_inv in
    record { few = omega (arith, few, c.loop-i.invariant.few); counted = omega (arith, step, c.loop-i.invariant.counted) }
