use Rattle.croncheck_report.specs.Settings.{start_of}
use Rattle.croncheck_planner.proofs.DroppedJobs.{LookedAt}
use Rattle.croncheck_planner.proofs.plan.dropped.dropped_of.Given as goal

abbrev pub invariant-loop-place : goal.invariant-loop-place
invariant-loop-place l = LookedAt (start_of l.fn.settings) l.fn.jobs l.place l.dropped.items
