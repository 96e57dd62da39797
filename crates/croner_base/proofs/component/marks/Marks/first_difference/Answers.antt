use Rattle.std.proofs.Common.{arith, ◌<◌}
use Rattle.std.proofs.lemmas.Bool.Decides.{nat_tests}
use Rattle.croner_base.proofs.words.Differing.{first_differs}
use Rattle.croner_base.proofs.component.marks.Marks.first_difference.Goals as goal

pub returns-then-has-2 : goal.returns-then-has-2
returns-then-has-2 c =
    let found : 0 < c.differences-found.result = omega arith in
    first_differs _ _ _ _ c.loop-i.invariant c.differences-found.ensures found (omega arith) (grind (arith, nat_tests)) (grind (arith, nat_tests))
