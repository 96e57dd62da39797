use Rattle.std.proofs.Common.{map, take}
use Rattle.crontab.specs.Checked.{TakesInTurn}
use Rattle.croncheck_output.specs.Output.{written_of}
use Rattle.croncheck_shown.specs.Patterns.{TellsPattern, untold}
use Rattle.croncheck_shown.proofs.patterns.tell_patterns.Given as goal

abbrev pub invariant-loop-k : goal.invariant-loop-k
invariant-loop-k g l =
    TakesInTurn (TellsPattern l.fn.terms.settings.now l.fn.answer) (untold (written_of g.W.Write.contents l.initial.output)) (map (λ word. word.now) (take l.k l.fn.words))
    (record { written = written_of g.W.Write.contents l.output; has_refused = l.has_refused })
