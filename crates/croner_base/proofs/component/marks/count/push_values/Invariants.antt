use Rattle.std.proofs.Common.{◌≡◌, ◌++◌}
use Rattle.croner_base.proofs.words.Counting.{values_below}
use Rattle.croner_base.proofs.component.marks.count.push_values.Given as goal

abbrev pub invariant-loop-b : goal.invariant-loop-b
invariant-loop-b l = l.values.items ≡ l.initial.values.items ++ values_below l.word l.i l.b
