use Rattle.croner_base.specs.declared.time.Direction.TheVariants.{Forward}
use Rattle.croner_base.specs.TableZone.{table_moment}
use Rattle.croner.specs.Views.{job_of}
use Rattle.crontab_runs.proofs.Recurs.{run_is_found, run_is_refused}
use Rattle.crontab_runs.proofs.recurring.CrontabJobRecurringTableTime.next_after.Goals as goal

pub returns-clause-found : goal.returns-clause-found
returns-clause-found c =
    run_is_found Forward (job_of c.args.self.now.cron) c.args.self.now.is_starred (table_moment c.args.after.now)
    c.next_after.result c.time_of.result c.next_after.ensures c.time_of.ensures.found

pub returns-clause-refused : goal.returns-clause-refused
returns-clause-refused c =
    run_is_refused Forward (job_of c.args.self.now.cron) c.args.self.now.is_starred (table_moment c.args.after.now)
    c.next_after.result c.time_of.result c.next_after.ensures c.time_of.ensures.refused
