use Rattle.std.proofs.Common.{◌*◌}
use Rattle.croner_base.proofs.words.Differing.{SameBefore}
use Rattle.croner_base.proofs.component.marks.Marks.first_difference.Given as goal

abbrev pub invariant-loop-i : goal.invariant-loop-i
invariant-loop-i l = SameBefore l.self l.other (l.i * 64)
