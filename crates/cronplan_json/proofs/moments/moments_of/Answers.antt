use Rattle.std.proofs.Common.{rules, arith}
use Rattle.std.proofs.lemmas.List.Sorted.{answers_always}
use Rattle.cronplan_json.proofs.EarliestFirst.{earliest_first}
use Rattle.cronplan_json.proofs.moments.moments_of.Goals as goal

pub returns : goal.returns
returns c =
    earliest_first c.args.plan.now.starts.items _ c.in_ok-moments.moments.items c.sort_unstable_by_key.new.self.items c.in_ok-moments.ensures (omega arith)
    c.sort_unstable_by_key.ensures.permutation
    (c.sort_unstable_by_key.ensures.sorted (λ m. m.second) (answers_always _ _ _ (λ f a r g h. search rules)))
