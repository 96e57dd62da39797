use Rattle.std.proofs.Common.{◌≡◌, drop}
use Rattle.croncheck_planner.specs.declared.plan.program.Place.TheVariants as places
use Rattle.croncheck_planner.specs.Programs.{text_after_command}
use Rattle.croncheck_planner.proofs.plan.program.text_after_command.Given as goal

abbrev pub invariant-loop-k : goal.invariant-loop-k
invariant-loop-k l = text_after_command l.place (drop l.k l.fn.text) ≡ text_after_command places.Open l.fn.text
