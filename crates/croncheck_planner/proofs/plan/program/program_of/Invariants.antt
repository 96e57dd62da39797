use Rattle.std.proofs.Common.{◌≡◌, drop}
use Rattle.croncheck_planner.specs.Programs.{program_along, program_of}
use Rattle.croncheck_planner.proofs.plan.program.program_of.Given as goal

abbrev pub invariant-loop-k : goal.invariant-loop-k
invariant-loop-k l = program_along (drop l.k l.fn.command) l.text ≡ program_of l.fn.command
