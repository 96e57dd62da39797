use Rattle.croner.proofs.crontable.TableSearch.{copied_jobs}
use Rattle.croner.proofs.crontable.CronTableClone.clone.Goals as goal

pub returns : goal.returns
returns c = record { cases = copied_jobs c.args.self.now.jobs.items c.in_ok-clone.field-0.items c.in_ok-clone.ensures.cases.0 }
