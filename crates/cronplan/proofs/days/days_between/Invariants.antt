use Rattle.std.proofs.Common.{List}
use Rattle.cronplan.specs.declared.start.JobStart.{JobStart}
use Rattle.cronplan.specs.Private.CountedPlan.{IsCounted, AreRows}
use Rattle.cronplan.proofs.days.days_between.Given as goal

abbrev pub invariant-loop-place : goal.invariant-loop-place
invariant-loop-place l = (starts : List JobStart) → IsCounted starts l.fn.counted → AreRows starts l.fn.counted l.fn.first l.place l.days.items
