use Rattle.std.proofs.Common.{inr}
use Rattle.croner.proofs.laws.crontable.take_next.Goals as goal

pub returns-in-Some-clause-takes : goal.returns-in-Some-clause-takes
returns-in-Some-clause-takes g c = inr (c.in-Some.run', c.in-Some.ensures.steps, c.push_reserved.ensures.items)
