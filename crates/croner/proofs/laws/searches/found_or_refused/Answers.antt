use Rattle.croner.specs.Views.{job_of}
use Rattle.croner.proofs.laws.SearchLaws.{kind_of, limit_outside}
use Rattle.croner.proofs.laws.searches.found_or_refused.Goals as goal

pub returns-clause-kinds : goal.returns-clause-kinds
returns-clause-kinds g c =
    kind_of g.T.CronDateTime.moment c.args.direction c.args.inclusive (job_of c.args.job.now) (g.T.CronDateTime.moment c.args.start.now) g.T.CronDateTime.can_lack_memory
    c.find_occurrence.result c.find_occurrence.ensures.refused

pub returns-clause-outside : goal.returns-clause-outside
returns-clause-outside g c outside =
    limit_outside g.T.CronDateTime.moment c.args.direction c.args.inclusive (job_of c.args.job.now) (g.T.CronDateTime.moment c.args.start.now) g.T.CronDateTime.can_lack_memory
    c.find_occurrence.result outside c.find_occurrence.ensures.found c.find_occurrence.ensures.refused
