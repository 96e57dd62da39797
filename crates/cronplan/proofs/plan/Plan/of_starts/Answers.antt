use Rattle.std.proofs.Common.{◌≤ℤ◌, sym, subst, ℤ}
use Rattle.std.specs.List.{All}
use Rattle.cronplan.specs.declared.start.JobStart.{JobStart}
use Rattle.cronplan.proofs.StartOrder.{merged_order, merged_all}
use Rattle.cronplan.proofs.plan.Plan.of_starts.Goals as goal

pub invariant_of-result : goal.invariant_of-result
invariant_of-result c =
    let merges = c.merge-starts.ensures.starts in
    record {
      order = merged_order c.args.starts.items c.merge-starts.result.0.items _ _ merges.merged;
      within = subst (λ (i : ℤ). All (λ (s : JobStart). i ≤ℤ s.second) c.merge-starts.result.0.items) (sym merges.from)
          (merged_all (λ (s : JobStart). c.args.span.first ≤ℤ s.second) c.args.starts.items c.merge-starts.result.0.items _ _ merges.merged c.requires);
      few = c.merge-starts.ensures.few;
    }
