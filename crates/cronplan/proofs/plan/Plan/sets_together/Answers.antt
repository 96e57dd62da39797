use Rattle.std.proofs.Common.{rules, subst, List}
use Rattle.std.proofs.lemmas.List.Sorted.{answers_always}
use Rattle.cronplan.specs.declared.start.JobStart.{JobStart}
use Rattle.cronplan.specs.declared.together.Meeting.{Meeting}
use Rattle.cronplan.specs.Private.Meetings.{AreByJobs, AreSets}
use Rattle.cronplan.proofs.JobSets.{are_together}
use Rattle.cronplan.proofs.plan.Plan.sets_together.Goals as goal

pub returns : goal.returns
returns c =
    let starts = c.args.self.now.starts.items in
    let meetings = c.in_ok-meetings.meetings.items in
    let sets = c.in_ok-sets.sets.items in
    are_together starts meetings sets c.sort_unstable_by_key.new.self.items c.args.self.now.order
    (subst (λ (xs : List JobStart). AreByJobs xs meetings) c.as_slice.ensures.value c.in_ok-meetings.ensures)
    (subst (λ (ms : List Meeting). AreSets ms sets) c.as_slice-2.ensures.value c.in_ok-sets.ensures)
    c.sort_unstable_by_key.ensures.permutation
    (c.sort_unstable_by_key.ensures.sorted (λ t. (record { 0 = t.moments }, t.first.second)) (answers_always _ _ _ (λ f a r g h. search rules)))
