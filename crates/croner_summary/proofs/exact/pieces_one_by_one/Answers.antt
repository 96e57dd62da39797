use Rattle.std.proofs.Common.{arith}
use Rattle.std.proofs.lemmas.Bool.Decides.{nat_tests}
use Rattle.croner_pattern.specs.Schedule.{is_named}
use Rattle.croner_summary.proofs.OneByOne.{answers_agree, answers_ordered}
use Rattle.croner_summary.proofs.exact.pieces_one_by_one.Goals as goal
use Rattle.croner_summary.proofs.exact.pieces_one_by_one.Goals.{else-least-eq-SUNDAY-via-then-least-eq-SUNDAY+else-greatest-eq-SATURDAY, else-least-eq-SUNDAY-via-else-least-eq-SUNDAY}

pub returns-clause-ok : goal.returns-clause-ok
returns-clause-ok c = answers_agree c.args.least c.args.greatest c.args.bit c.args.field.now c.ones_from.result c.ones_from.ensures.ok

pub returns-clause-ordered : goal.returns-clause-ordered
returns-clause-ordered c =
    answers_ordered c.args.least c.args.greatest (is_named c.args.bit c.args.field.now) c.ones_from.result c.requires.order
    (λ week sunday. elim c.else-least-eq-SUNDAY.branch [
      | else-least-eq-SUNDAY-via-then-least-eq-SUNDAY+else-greatest-eq-SATURDAY w ↦ grind (arith, nat_tests)
      | else-least-eq-SUNDAY-via-else-least-eq-SUNDAY w ↦ grind (arith, nat_tests)
    ])
    c.ones_from.ensures.ok
