use Rattle.std.proofs.Common.{◌≡◌, drop}
use Rattle.crontab.specs.Line.{next}
use Rattle.croncheck_planner.specs.Programs.{operand_along}
use Rattle.croncheck_planner.proofs.plan.program.operand_of.Given as goal

abbrev pub invariant-loop-k : goal.invariant-loop-k
invariant-loop-k l = operand_along (drop l.k l.fn.text) l.rest ≡ operand_along l.fn.text (next l.fn.text)
