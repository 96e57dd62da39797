use Rattle.std.proofs.Common.{◌≡◌, drop}
use Rattle.croncheck_planner.specs.Titles.{tells_anywhere}
use Rattle.croncheck_planner.proofs.plan.title.tells_anywhere.Given as goal

abbrev pub invariant-loop-k : goal.invariant-loop-k
invariant-loop-k l = tells_anywhere (drop l.k l.fn.text) ≡ tells_anywhere l.fn.text
