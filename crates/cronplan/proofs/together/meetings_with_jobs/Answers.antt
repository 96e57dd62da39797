use Rattle.std.proofs.Common.{◌∙◌, rules, of_calls, not}
use Rattle.std.proofs.lemmas.Fn.{always_returns_same}
use Rattle.cronplan.specs.Private.Meetings.{is_lower}
use Rattle.cronplan.proofs.AlikeElements.{alike_first, stand_first}
use Rattle.cronplan.proofs.JobSets.{lower_weak}
use Rattle.cronplan.proofs.together.meetings_with_jobs.Goals as goal

pub returns : goal.returns
returns c =
    let m = c.args.meeting.now in
    let point = c.partition_point-count.ensures.partitioned (λ x. not (is_lower m x)) (always_returns_same _ _ _ (λ a r f k. search (rules, of_calls)))
    (stand_first is_lower lower_weak m c.args.later.now c.requires.order) in
    c.split_at.ensures.front
    ∙ alike_first is_lower lower_weak m c.args.later.now c.partition_point-count.result c.partition_point-count.ensures.bound c.requires.late point.0 point.1
