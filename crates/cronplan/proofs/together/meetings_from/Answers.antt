use Rattle.std.proofs.Common.{◌≡◌, ◌∙◌, ap, sym, subst, arith, drop, false}
use Rattle.std.specs.List.{All}
use Rattle.std.specs.List.Sorted.{IsSortedBy}
use Rattle.cronplan.specs.declared.together.Meeting.{Meeting}
use Rattle.cronplan.specs.Private.Meetings.{is_lower, meetings_with_jobs}
use Rattle.cronplan.proofs.AlikeElements.{sorted_from, none_less_from}
use Rattle.cronplan.proofs.JobSets.{lower_weak, new_group}
use Rattle.cronplan.proofs.together.meetings_from.Goals as goal

pub meetings_with_jobs-requires-clause-order : goal.meetings_with_jobs-requires-clause-order
meetings_with_jobs-requires-clause-order c =
    subst (IsSortedBy is_lower) (sym c.split_at.ensures.back) (sorted_from is_lower lower_weak c.args.meetings.now c.requires.order c.args.place (omega arith))

pub meetings_with_jobs-requires-clause-late : goal.meetings_with_jobs-requires-clause-late
meetings_with_jobs-requires-clause-late c =
    let x : Meeting = c.index-meetings-place.result in
    subst (All (λ m. is_lower m x ≡ false)) (sym c.split_at.ensures.back)
    (subst (λ (y : Meeting). All (λ m. is_lower m y ≡ false) (drop c.args.place c.args.meetings.now)) (sym c.index-meetings-place.is)
    (none_less_from is_lower lower_weak c.args.meetings.now c.requires.order c.args.place x (omega arith)))

pub returns-then-is_new : goal.returns-then-is_new
returns-then-is_new c = λ d.
    let x : Meeting = c.index-meetings-place.result in
    new_group c.args.meetings.now c.meetings_with_jobs.result.now c.args.place d x (omega arith) c.index-meetings-place.is (c.is_new.ensures.new c.if-is_new.true d)
    (c.meetings_with_jobs.ensures ∙ ap (meetings_with_jobs x) c.split_at.ensures.back)
