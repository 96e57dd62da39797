use Rattle.croner_scheduler.proofs.Places.{lowest_from}
use Rattle.croner_scheduler.proofs.ids.first_among.Goals as goal

pub returns-in-Err-clause-from : goal.returns-in-Err-clause-from
returns-in-Err-clause-from c =
    (lowest_from c.args.ids.now c.args.id c.in-Err.place c.in-Err.ensures.position c.get.result c.get.ensures.lookup c.copied.result c.copied.ensures).0

pub returns-in-Err-clause-between : goal.returns-in-Err-clause-between
returns-in-Err-clause-between c =
    (lowest_from c.args.ids.now c.args.id c.in-Err.place c.in-Err.ensures.position c.get.result c.get.ensures.lookup c.copied.result c.copied.ensures).1

pub returns-in-Err-clause-none : goal.returns-in-Err-clause-none
returns-in-Err-clause-none c =
    (lowest_from c.args.ids.now c.args.id c.in-Err.place c.in-Err.ensures.position c.get.result c.get.ensures.lookup c.copied.result c.copied.ensures).2
