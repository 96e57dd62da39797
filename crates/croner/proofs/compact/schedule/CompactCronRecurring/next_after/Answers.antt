use Rattle.croner.specs.compact.Compact.{compact_meaning}
use Rattle.croner.proofs.CronRuns.{next_found, next_refused}
use Rattle.croner.proofs.compact.schedule.CompactCronRecurring.next_after.Goals as goal

pub returns-clause-found : goal.returns-clause-found
returns-clause-found g c =
    next_found g.T.CronDateTime.moment g.T.CronDateTime.can_lack_memory (compact_meaning c.args.self.now) (g.T.CronDateTime.moment c.args.after.now)
    c.find_next_occurrence.result c.find_next_occurrence.ensures.found

pub returns-clause-refused : goal.returns-clause-refused
returns-clause-refused g c =
    next_refused g.T.CronDateTime.moment g.T.CronDateTime.can_lack_memory (compact_meaning c.args.self.now) (g.T.CronDateTime.moment c.args.after.now)
    c.find_next_occurrence.result c.find_next_occurrence.ensures.refused
