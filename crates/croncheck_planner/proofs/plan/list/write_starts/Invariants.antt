use Rattle.std.proofs.Common.{None, take}
use Rattle.crontab.specs.Checked.{TakesInTurn}
use Rattle.croncheck_output.specs.Output.{written_of}
use Rattle.croncheck_planner.specs.PlanList.{labels, WritesNext}
use Rattle.croncheck_planner.proofs.plan.list.write_starts.Given as goal

abbrev pub invariant-loop-k : goal.invariant-loop-k
invariant-loop-k g l =
    TakesInTurn (WritesNext l.fn.terms.settings.now l.fn.terms.shared.now (labels l.fn.jobs)) (record { last = None; written = written_of g.W.Write.contents l.initial.output })
    (take l.k l.fn.starts) (record { last = l.last; written = written_of g.W.Write.contents l.output })
