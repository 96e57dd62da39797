use Rattle.croncheck_often.proofs.CountedRuns.{Seen}
use Rattle.croncheck_often.proofs.often.shortest_of.Given as goal

abbrev pub invariant-loop-run : goal.invariant-loop-run
invariant-loop-run l = Seen l.runs l.run-index l.before l.shortest
