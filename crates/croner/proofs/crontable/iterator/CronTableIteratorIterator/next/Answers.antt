use Rattle.croner.proofs.crontable.TableIterating.{leads_from, gives_item}
use Rattle.croner.proofs.crontable.iterator.CronTableIteratorIterator.next.Goals as goal

pub step_to-requires-clause-leads : goal.step_to-requires-clause-leads
step_to-requires-clause-leads g c =
    let moment = g.T.CronDateTime.moment in
    leads_from moment c.args.self.now c.find.new.self c.find.ensures.same c.in-Ok.run' c.in-Ok.item.1.items c.in-Ok.ensures.found

pub returns-in-Ok-clause-steps : goal.returns-in-Ok-clause-steps
returns-in-Ok-clause-steps g c =
    let moment = g.T.CronDateTime.moment in
    gives_item moment c.args.self.now c.find.new.self c.find.ensures.same c.step_to.new.self c.in-Ok.run' c.in-Ok.item.0 c.in-Ok.item.1.items c.in-Ok.ensures.found c.in-Ok.ensures.copied c.step_to.ensures
