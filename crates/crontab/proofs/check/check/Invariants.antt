use Rattle.crontab.specs.Checked.{entry_of_line}
use Rattle.crontab.proofs.TakenLines.{TakenSoFar}
use Rattle.crontab.proofs.check.check.Given as goal

abbrev pub invariant-loop-turn : goal.invariant-loop-turn
invariant-loop-turn g l = record {
  so_far : TakenSoFar (entry_of_line l.fn.dialect) g.S.Entries.takes (g.R.Read.remaining l.initial.reader) (g.R.Read.remaining l.reader) l.initial.sink l.sink;
}
