use Rattle.std.proofs.Common.{◌≡◌, take}
use Rattle.std.specs.Prelude.{map}
use Rattle.croncheck_runs.specs.Private.Listed.{once}
use Rattle.croncheck_runs.proofs.runs.runs_once.Given as goal

abbrev pub invariant-loop-time : goal.invariant-loop-time
invariant-loop-time l = l.runs.items ≡ map once (take l.time-index l.fn.times)
