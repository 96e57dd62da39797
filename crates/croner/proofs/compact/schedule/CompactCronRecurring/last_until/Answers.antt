use Rattle.croner.specs.compact.Compact.{compact_meaning}
use Rattle.croner.proofs.CronRuns.{last_found, last_refused}
use Rattle.croner.proofs.compact.schedule.CompactCronRecurring.last_until.Goals as goal

pub returns-clause-found : goal.returns-clause-found
returns-clause-found g c =
    last_found g.T.CronDateTime.moment g.T.CronDateTime.can_lack_memory (compact_meaning c.args.self.now) (g.T.CronDateTime.moment c.args.until.now)
    c.find_previous_occurrence.result c.find_previous_occurrence.ensures.found

pub returns-clause-refused : goal.returns-clause-refused
returns-clause-refused g c =
    last_refused g.T.CronDateTime.moment g.T.CronDateTime.can_lack_memory (compact_meaning c.args.self.now) (g.T.CronDateTime.moment c.args.until.now)
    c.find_previous_occurrence.result c.find_previous_occurrence.ensures.refused
