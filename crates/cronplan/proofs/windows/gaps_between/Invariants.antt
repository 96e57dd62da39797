use Rattle.std.proofs.Common.{◌≡◌, ◌++◌, drop}
use Rattle.cronplan.specs.Private.Gaps.{gaps}
use Rattle.cronplan.proofs.windows.gaps_between.Given as goal

abbrev pub invariant-loop-start : goal.invariant-loop-start
invariant-loop-start l = l.windows.items ++ gaps l.least l.end l.from (drop l.start-index l.starts) ≡ gaps l.least l.end l.fn.first l.starts
