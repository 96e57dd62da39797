use Rattle.std.proofs.Common.{◌∙◌, ◌≤ℤ◌, rules, of_calls, int_lt, is_lt, sym, ap, subst}
use Rattle.std.proofs.lemmas.Fn.{always_returns_same}
use Rattle.std.specs.List.{All}
use Rattle.std.specs.List.Sorted.{IsSorted}
use Rattle.cronplan.specs.declared.start.JobStart.{JobStart}
use Rattle.cronplan.specs.Moments.{at_second}
use Rattle.cronplan.specs.Starts.{start_cmp}
use Rattle.cronplan.proofs.AlikeElements.{sorted_from}
use Rattle.cronplan.proofs.MomentStarts.{after_earlier}
use Rattle.cronplan.proofs.StartOrder.{start_weak}
use Rattle.cronplan_json.proofs.StartsThen.{partitioned_before, all_before, none_before}
use Rattle.cronplan_json.proofs.moments.starts_from.Goals as goal

pub returns : goal.returns
returns c =
    let i = c.args.second in
    let starts = c.args.starts.now in
    let n = c.partition_point-count.result in
    let point = c.partition_point-count.ensures.partitioned (λ s. int_lt s.second i) (always_returns_same _ _ _ (λ a r f k. search (rules, of_calls)))
    (λ j k d le inside h. partitioned_before i starts c.requires j k d le inside h) in
    record {
      order = subst (IsSorted start_cmp) (sym c.split_at.ensures.back) (sorted_from (λ (x y : JobStart). is_lt (start_cmp x y)) start_weak starts c.requires n c.partition_point-count.ensures.bound);
      late = subst (All (λ (s : JobStart). i ≤ℤ s.second)) (sym c.split_at.ensures.back) (none_before i starts n point.1);
      then = ap (at_second i) c.split_at.ensures.back ∙ after_earlier i starts n (all_before i starts n c.partition_point-count.ensures.bound point.0);
    }
