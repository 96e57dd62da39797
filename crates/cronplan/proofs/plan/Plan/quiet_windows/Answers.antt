use Rattle.std.proofs.Common.{rules, subst, List}
use Rattle.std.proofs.lemmas.List.Sorted.{answers_always}
use Rattle.cronplan.specs.declared.start.JobStart.{JobStart}
use Rattle.cronplan.specs.Windows.{AreWindows, seconds_in}
use Rattle.cronplan.proofs.GapWindows.{by_length, in_order}
use Rattle.cronplan.proofs.plan.Plan.quiet_windows.Goals as goal

pub returns-clause-windows : goal.returns-clause-windows
returns-clause-windows c =
    in_order c.args.self.now.starts.items c.args.self.now.span c.args.least c.in_ok-windows.windows.items c.sort_unstable_by_key.new.self.items
    (subst (λ (xs : List JobStart). AreWindows xs c.args.self.now.span c.args.least c.in_ok-windows.windows.items) c.as_slice.ensures.value c.in_ok-windows.ensures)
    c.sort_unstable_by_key.ensures.permutation

pub returns-clause-longest : goal.returns-clause-longest
returns-clause-longest c =
    by_length c.sort_unstable_by_key.new.self.items
    (c.sort_unstable_by_key.ensures.sorted (λ w. (record { 0 = seconds_in w }, w.from.second)) (answers_always _ _ _ (λ f a r g h. search rules)))

pub returns-clause-order : goal.returns-clause-order
returns-clause-order c = c.sort_unstable_by_key.ensures.sorted (λ w. (record { 0 = seconds_in w }, w.from.second)) (answers_always _ _ _ (λ f a r g h. search rules))
