use Rattle.std.proofs.Common.{Bool, Ok, Option, Some, refl, sym, subst}
use Rattle.croner.specs.Views.{job_of}
use Rattle.croner_pattern.specs.Meaning.{Meaning}
use Rattle.crontab.specs.Entries.{job_seen}
use Rattle.croncheck_runs.specs.declared.runs.Runner.TheVariants as runners
use Rattle.croncheck_report.specs.Report.{IsWarned, TellsChanges}
use Rattle.croncheck_report.specs.Told.{cron_of, TellsMeaning}
use Rattle.croncheck_warnings.specs.Users.{users_seen}
use Rattle.croncheck_report.proofs.Outcomes.{meaning_is, tells_timing}
use Rattle.croncheck_report.proofs.report.report_of_parsed_job.Goals as goal

pub returns-clause-report : goal.returns-clause-report
returns-clause-report c = λ blanks read starred.
    let s = c.args.settings.now in
    let task = job_seen c.args.job in
    let cron = c.args.crontab_job.now.cron in
    let is = sym (meaning_is task.times cron read) in
    record {
      schedule_is = refl;
      user_is = refl;
      command_is = refl;
      tells_times = tells_timing s task.schedule task.times cron c.in_ok-times.times read
          (subst (λ (b : Bool). TellsMeaning s (runners.Cron b) (Ok (job_of cron)) c.in_ok-times.times) starred c.in_ok-times.ensures.told);
      warned = subst (λ (m : Option Meaning). IsWarned c.args.is_fed (users_seen s.users) task.schedule task.user task.command m c.in_ok-times.times
          c.in_ok-warnings.warnings.items) is c.in_ok-warnings.ensures.warnings;
      met = subst (λ (m : Option Meaning). TellsChanges s (cron_of task.schedule) m c.in_ok-times.times c.meetings_of-meetings.result) is
          (subst (λ (b : Bool). TellsChanges s (runners.Cron b) (Some (job_of cron)) c.in_ok-times.times c.meetings_of-meetings.result) starred
          c.meetings_of-meetings.ensures);
    }
