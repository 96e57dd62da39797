use Rattle.std.proofs.Common.{◌∙◌, true, Some, Option, option_map, ap}
use Rattle.croner.specs.parser.Grammar.{Texts}
use Rattle.croner.specs.Views.{job_of}
use Rattle.croncheck_report.specs.Report.{subject_of}
use Rattle.croncheck_warnings.specs.Users.{users_seen}
use Rattle.croncheck_warnings.specs.Warnings.{warnings_of}
use Rattle.croncheck_report.proofs.report.warnings_of_job.Goals as goal

pub returns-clause-warnings : goal.returns-clause-warnings
returns-clause-warnings c = record {
  are = c.in_ok-warnings.ensures.ok ∙ ap warnings_of (c.subject_of.ensures
      ∙ ap (λ (fields : Option Texts). subject_of fields (option_map (λ j. job_of j.now) c.args.cron) (users_seen c.args.users) (option_map (λ u. u.now) c.args.job.now.user) (Some c.args.job.now.command.now) true
      c.args.is_fed c.args.told.now) c.fields_of_schedule-fields.ensures);
}
