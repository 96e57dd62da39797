use Rattle.std.proofs.Common.{◌∙◌, rules, of_calls, int_le}
use Rattle.std.proofs.lemmas.Fn.{always_returns_same}
use Rattle.cronplan.proofs.MomentStarts.{partitioned, split_at_second}
use Rattle.cronplan_json.proofs.moments.starts_up_to.Goals as goal

pub returns : goal.returns
returns c =
    let i = c.args.second in
    let point = c.partition_point-count.ensures.partitioned (λ s. int_le s.second i) (always_returns_same _ _ _ (λ a r f k. search (rules, of_calls)))
    (λ j k d le inside up. partitioned i c.args.starts.now c.requires.order j k d le inside up) in
    c.split_at.ensures.front ∙ split_at_second i c.args.starts.now c.partition_point-count.result c.partition_point-count.ensures.bound c.requires.late point.0 point.1
