use Rattle.std.proofs.Common.{◌∙◌, sym}
use Rattle.croner_pattern.specs.Schedule.{is_fixed_time}
use Rattle.croner.specs.Views.{job_of}
use Rattle.croncheck_changes.proofs.Meetings.{fixed_job, interval_job}
use Rattle.croncheck_changes.proofs.changes.Changes.fate_in_croner.Goals as goal

pub fate_in_gap-requires-clause-fixed : goal.fate_in_gap-requires-clause-fixed
fate_in_gap-requires-clause-fixed c = fixed_job (is_fixed_time (job_of c.args.job.now)) (sym c.determine_job_type.ensures ∙ c.in-Gap-FixedTime.is-1)

pub returns-in-Repeated-FixedTime : goal.returns-in-Repeated-FixedTime
returns-in-Repeated-FixedTime c =
    rw c.in-Repeated-FixedTime.is-0 (fixed_job (is_fixed_time (job_of c.args.job.now)) (sym c.determine_job_type.ensures ∙ c.in-Repeated-FixedTime.is-1))

pub returns-in-Repeated-IntervalWildcard : goal.returns-in-Repeated-IntervalWildcard
returns-in-Repeated-IntervalWildcard c =
    rw c.in-Repeated-IntervalWildcard.is-0
    (interval_job (is_fixed_time (job_of c.args.job.now)) (sym c.determine_job_type.ensures ∙ c.in-Repeated-IntervalWildcard.is-1))
