use Rattle.std.proofs.Common.{◌≡◌, ◌+◌, None, drop}
use Rattle.croncheck_planner.specs.Plan.{starts_within}
use Rattle.croncheck_planner.proofs.plan.count_within.Given as goal

abbrev pub invariant-loop-k : goal.invariant-loop-k
invariant-loop-k l = l.k + starts_within l.left l.last (drop l.k l.fn.starts) ≡ starts_within l.fn.count None l.fn.starts
