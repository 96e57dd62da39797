use Rattle.croner.specs.Views.{job_of}
use Rattle.croner.proofs.parser.CronParser.explain.Goals as goal

pub returns-in-Ok-Accepted : goal.returns-in-Ok-Accepted
returns-in-Ok-Accepted c = (
  job_of c.in-Ok-Accepted._job,
  rw c.in-Ok-Accepted.field-0-is at c.in-Ok-Accepted.ensures,
)
