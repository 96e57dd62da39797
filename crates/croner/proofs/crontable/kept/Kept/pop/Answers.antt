use Rattle.std.proofs.Common.{refl}
use Rattle.croner.proofs.crontable.kept.Kept.pop.Goals as goal

pub returns-in-Some-clause-popped : goal.returns-in-Some-clause-popped
returns-in-Some-clause-popped g c = record {
  due = c.in-Some.due;
  gives = refl;
  first = c.in-Some.ensures.top;
  items = c.in-Some.ensures.permutation;
  above = c.in-Some.ensures.below_top c.args.self.now.ordered;
  waits = c.push_reserved.ensures.items;
}
