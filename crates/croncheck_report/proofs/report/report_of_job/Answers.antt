use Rattle.std.proofs.Common.{subst}
use Rattle.crontab.specs.Content.{IsOutcomeOfTimes}
use Rattle.crontab.specs.Entries.{job_seen}
use Rattle.croncheck_report.specs.Report.{blanks_of}
use Rattle.croncheck_report.proofs.report.report_of_job.Goals as goal

pub returns-in-Job-clause-report : goal.returns-in-Job-clause-report
returns-in-Job-clause-report c = λ read.
    c.report_of_parsed_job.ensures.report (blanks_of c.args.line.now) (subst (IsOutcomeOfTimes (job_seen c.args.job).times) c.in-Job.is read)
    c.is_starred-is_starred.ensures

pub returns-in-NoText-clause-report : goal.returns-in-NoText-clause-report
returns-in-NoText-clause-report c = λ read.
    c.report_of_no_text.ensures.report (blanks_of c.args.line.now)
    (subst (IsOutcomeOfTimes (job_seen c.args.job).times) c.in-NoText.is read)
