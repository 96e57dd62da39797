use Rattle.croner.specs.Views.{job_of}
use Rattle.croner.proofs.CronRuns.{last_found, last_refused}
use Rattle.croner.proofs.recurring.CronRecurring.last_until.Goals as goal

pub returns-clause-found : goal.returns-clause-found
returns-clause-found g c =
    last_found g.T.CronDateTime.moment g.T.CronDateTime.can_lack_memory (job_of c.args.self.now) (g.T.CronDateTime.moment c.args.until.now)
    c.find_previous_occurrence.result c.find_previous_occurrence.ensures.found

pub returns-clause-refused : goal.returns-clause-refused
returns-clause-refused g c =
    last_refused g.T.CronDateTime.moment g.T.CronDateTime.can_lack_memory (job_of c.args.self.now) (g.T.CronDateTime.moment c.args.until.now)
    c.find_previous_occurrence.result c.find_previous_occurrence.ensures.refused
