use Rattle.croner_base.specs.declared.time.Direction.TheVariants.{Backward}
use Rattle.croner_base.specs.TableZone.{table_moment}
use Rattle.croner.specs.Views.{job_of}
use Rattle.crontab_runs.proofs.Recurs.{run_is_found, run_is_refused}
use Rattle.crontab_runs.proofs.recurring.CrontabJobRecurringTableTime.last_until.Goals as goal

pub returns-clause-found : goal.returns-clause-found
returns-clause-found c =
    run_is_found Backward (job_of c.args.self.now.cron) c.args.self.now.is_starred (table_moment c.args.until.now)
    c.last_until.result c.time_of.result c.last_until.ensures c.time_of.ensures.found

pub returns-clause-refused : goal.returns-clause-refused
returns-clause-refused c =
    run_is_refused Backward (job_of c.args.self.now.cron) c.args.self.now.is_starred (table_moment c.args.until.now)
    c.last_until.result c.time_of.result c.last_until.ensures c.time_of.ensures.refused
