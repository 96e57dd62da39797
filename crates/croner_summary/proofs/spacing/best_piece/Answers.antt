use Rattle.std.proofs.Common.{arith}
use Rattle.croner_summary.proofs.Shortness.{ends_of, only_value, some_plain}
use Rattle.croner_summary.proofs.spacing.best_piece.Goals as goal

pub returns-then-second-greatest : goal.returns-then-second-greatest
returns-then-second-greatest c =
    only_value c.args.least c.args.greatest c.args.field.now c.args.first c.next_plain-second.result c.requires.is_first c.requires.within c.next_plain-second.ensures (omega arith)

pub best_of-requires-clause-ends : goal.best_of-requires-clause-ends
best_of-requires-clause-ends c =
    ends_of c.args.least c.args.greatest c.args.field.now c.args.first c.next_plain-second.result c.in-Some.last c.requires.is_first c.requires.within c.next_plain-second.ensures (omega arith) c.in-Some.ensures

pub returns-in-None : goal.returns-in-None
returns-in-None c = some_plain c.args.least c.args.greatest c.args.field.now c.args.first c.requires.is_first c.requires.within c.in-None.ensures
