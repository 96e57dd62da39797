use Rattle.croner_base.proofs.words.Differing.{SameUnless}
use Rattle.croner_base.proofs.component.marks.words.are_same.Given as goal

abbrev pub invariant-loop-i : goal.invariant-loop-i
invariant-loop-i l = SameUnless l.words l.others l.i l.differing
