use Rattle.std.proofs.Common.{rules, ◌≡◌, ◌∙◌, ap, sym, if◌then◌else◌}
use Rattle.std.specs.Ordering.{eq_by_cmp}
use Rattle.croner_pattern.specs.Order.{pattern_cmp}
use Rattle.croner_pattern.specs.Schedule.{is_fixed_time}
use Rattle.croner.specs.declared.job.JobType.TheVariants.{FixedTime, IntervalWildcard}
use Rattle.croner.specs.Views.{job_of}
use Rattle.croner.proofs.laws.EqualJobs.{answers_same, same_schedule, same_dates}
use Rattle.croner.proofs.laws.equality.equal_and_kinds.Goals as goal

pub returns-clause-equal : goal.returns-clause-equal
returns-clause-equal c =
    let e : c.eq.result ≡ eq_by_cmp pattern_cmp c.args.one.now.pattern c.args.other.now.pattern = search rules in
    answers_same (job_of c.args.one.now) (job_of c.args.other.now) c.eq.result e

pub returns-clause-scheduled : goal.returns-clause-scheduled
returns-clause-scheduled c =
    λ h w. same_schedule (job_of c.args.one.now) (job_of c.args.other.now) w ((returns-clause-equal c).0 h)

pub returns-clause-dates : goal.returns-clause-dates
returns-clause-dates c =
    λ h w. same_dates (job_of c.args.one.now) (job_of c.args.other.now) w ((returns-clause-equal c).0 h)

pub returns-clause-kinds : goal.returns-clause-kinds
returns-clause-kinds c = λ h.
    let one : c.determine_job_type.result ≡ (if is_fixed_time (job_of c.args.one.now) then FixedTime else IntervalWildcard) = c.determine_job_type.ensures in
    let other : c.determine_job_type-2.result ≡ (if is_fixed_time (job_of c.args.other.now) then FixedTime else IntervalWildcard) = c.determine_job_type-2.ensures in
    one ∙ ap (λ m. if is_fixed_time m then FixedTime else IntervalWildcard) (sym ((returns-clause-equal c).0 h)) ∙ sym other
