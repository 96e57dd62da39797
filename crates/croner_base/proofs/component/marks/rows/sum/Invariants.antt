use Rattle.std.proofs.Common.{◌≡◌}
use Rattle.croner_base.specs.Private.words.Rows.{width, sum_below}
use Rattle.croner_base.proofs.component.marks.rows.sum.Given as goal

abbrev pub invariant-loop-k : goal.invariant-loop-k
invariant-loop-k l = l.sum ≡ sum_below l.words (width l.max) l.supported l.k l.value
