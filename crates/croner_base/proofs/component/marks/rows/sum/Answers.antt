use Rattle.std.proofs.Common.{arith}
use Rattle.croner_base.proofs.words.Sums.{sum_more}
use Rattle.croner_base.proofs.component.marks.rows.sum.Goals as goal

pub overflow_add-sum : goal.overflow_add-sum
overflow_add-sum c = omega (arith, (sum_more _ _ _ _ _ _ _ _ c.loop-k-test.true c.from-i.ensures c.word.ensures c.loop-k.invariant).1)

pub loop-k-preserved : goal.loop-k-preserved
loop-k-preserved c = (sum_more _ _ _ _ _ _ _ _ c.loop-k-test.true c.from-i.ensures c.word.ensures c.loop-k.invariant).0
