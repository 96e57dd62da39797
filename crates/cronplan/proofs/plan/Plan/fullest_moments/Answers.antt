use Rattle.std.proofs.Common.{rules, subst, List}
use Rattle.std.proofs.lemmas.List.Sorted.{answers_always}
use Rattle.cronplan.specs.declared.start.JobStart.{JobStart}
use Rattle.cronplan.specs.Moments.{AreMoments}
use Rattle.cronplan.proofs.plan.Plan.fullest_moments.Goals as goal

pub returns : goal.returns
returns c = record {
  moments = c.in_ok-moments.moments.items;
  are_moments = subst (λ (xs : List JobStart). AreMoments xs c.in_ok-moments.moments.items) c.as_slice.ensures.value c.in_ok-moments.ensures;
  ordered = c.sort_unstable_by_key.new.self.items;
  same = c.sort_unstable_by_key.ensures.permutation;
  order = c.sort_unstable_by_key.ensures.sorted (λ m. (record { 0 = m.starts }, m.second)) (answers_always _ _ _ (λ f a r g h. search rules));
  first = c.truncate.ensures.items;
}
