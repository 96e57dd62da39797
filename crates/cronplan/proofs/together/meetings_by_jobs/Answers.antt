use Rattle.std.proofs.Common.{rules}
use Rattle.std.proofs.lemmas.List.Sorted.{answers_always}
use Rattle.cronplan.specs.Private.Meetings.{is_lower}
use Rattle.cronplan.proofs.JobSets.{lower_weak}
use Rattle.cronplan.proofs.together.meetings_by_jobs.Goals as goal

pub returns : goal.returns
returns c = record {
  first = c.in_ok-meetings.meetings.items;
  are_meetings = c.in_ok-meetings.ensures;
  same = c.sort_by.ensures.permutation;
  stable = c.sort_by.ensures.stable is_lower lower_weak (answers_always _ _ _ (λ f a r g h. search rules));
  order = c.in_ok-sort_by.ensures.sorted is_lower lower_weak (answers_always _ _ _ (λ f a r g h. search rules));
}
