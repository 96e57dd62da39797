use Rattle.std.proofs.Common.{Option, refl, sym, subst}
use Rattle.croner_pattern.specs.Meaning.{Meaning}
use Rattle.crontab.specs.Entries.{job_seen}
use Rattle.croncheck_report.specs.Report.{IsWarned, TellsChanges}
use Rattle.croncheck_report.specs.Told.{cron_of}
use Rattle.croncheck_warnings.specs.Users.{users_seen}
use Rattle.croncheck_report.proofs.Outcomes.{no_meaning}
use Rattle.croncheck_report.proofs.report.report_of_no_text.Goals as goal

pub returns-clause-report : goal.returns-clause-report
returns-clause-report c = λ blanks read.
    let s = c.args.settings.now in
    let task = job_seen c.args.job in
    let times = c.times_of_no_text-times.result in
    let is = sym (no_meaning task.times read) in
    record {
      schedule_is = refl;
      user_is = refl;
      command_is = refl;
      tells_times = c.times_of_no_text-times.ensures s read task.schedule;
      warned = subst (λ (m : Option Meaning). IsWarned c.args.is_fed (users_seen s.users) task.schedule task.user task.command m times c.in_ok-warnings.warnings.items) is
          c.in_ok-warnings.ensures.warnings;
      met = subst (λ (m : Option Meaning). TellsChanges s (cron_of task.schedule) m times c.none.result) is c.none.ensures;
    }
