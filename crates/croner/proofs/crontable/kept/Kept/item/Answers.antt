use Rattle.std.proofs.Common.{subst}
use Rattle.std.specs.List.{each_same}
use Rattle.croner.specs.declared.crontable.nearest.Met.{Met}
use Rattle.croner.specs.Private.crontable.Met.{met_of, Decides}
use Rattle.croner.proofs.crontable.TableSearch.{item_copied, item_places, item_inside, item_refused}
use Rattle.croner.proofs.crontable.kept.Kept.item.Goals as goal

pub returns-clause-copied : goal.returns-clause-copied
returns-clause-copied g c =
    let moment = g.T.CronDateTime.moment in
    let lack = g.T.CronDateTime.can_lack_memory in
    let R : Met g.row.T.Denot → Type 0 = λ met. Decides moment lack c.args.direction (met_of met) met.places c.decide.result in
    let decided = subst R c.of_run.ensures c.decide.ensures in
    item_copied moment lack c.args.direction c.args.run.now c.in-Ok.copy (g.met.T.CronDateTime.clone_keeps c.args.run.now c.in-Ok.copy c.in-Ok.ensures.cases) c.args.self.now.is_limited c.in-Ok-places.places c.decide.result decided

pub returns-clause-places : goal.returns-clause-places
returns-clause-places g c =
    let moment = g.T.CronDateTime.moment in
    let lack = g.T.CronDateTime.can_lack_memory in
    let R : Met g.row.T.Denot → Type 0 = λ met. Decides moment lack c.args.direction (met_of met) met.places c.decide.result in
    let decided = subst R c.of_run.ensures c.decide.ensures in
    item_places moment lack c.args.direction c.args.run.now c.in-Ok.copy (g.met.T.CronDateTime.clone_keeps c.args.run.now c.in-Ok.copy c.in-Ok.ensures.cases) c.args.self.now.is_limited c.in-Ok-places.places c.args.self.now.waiting.items (each_same c.args.self.now.waiting.items c.in-Ok-places.places.items c.in-Ok-places.ensures.cases.0) c.decide.result decided

pub returns-clause-inside : goal.returns-clause-inside
returns-clause-inside g c =
    let moment = g.T.CronDateTime.moment in
    let lack = g.T.CronDateTime.can_lack_memory in
    let R : Met g.row.T.Denot → Type 0 = λ met. Decides moment lack c.args.direction (met_of met) met.places c.decide.result in
    let decided = subst R c.of_run.ensures c.decide.ensures in
    item_inside moment lack c.args.direction c.args.run.now c.in-Ok.copy (g.met.T.CronDateTime.clone_keeps c.args.run.now c.in-Ok.copy c.in-Ok.ensures.cases) c.args.self.now.is_limited c.in-Ok-places.places c.decide.result decided

pub returns-clause-refused : goal.returns-clause-refused
returns-clause-refused g c =
    let moment = g.T.CronDateTime.moment in
    let lack = g.T.CronDateTime.can_lack_memory in
    let R : Met g.row.T.Denot → Type 0 = λ met. Decides moment lack c.args.direction (met_of met) met.places c.decide.result in
    let decided = subst R c.of_run.ensures c.decide.ensures in
    item_refused moment lack c.args.direction c.args.run.now c.in-Ok.copy (g.met.T.CronDateTime.clone_keeps c.args.run.now c.in-Ok.copy c.in-Ok.ensures.cases) c.args.self.now.is_limited c.in-Ok-places.places c.decide.result decided
