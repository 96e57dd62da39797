use Rattle.std.proofs.Common.{take, option_map}
use Rattle.croncheck_forms.specs.SarifForm.{WritesResults}
use Rattle.croncheck_output.specs.Output.{written_of}
use Rattle.croncheck_forms.proofs.sarif.write_results.Given as goal

abbrev pub invariant-loop-k : goal.invariant-loop-k
invariant-loop-k g l =
    WritesResults l.fn.head l.fn.place.file.now l.fn.place.line (option_map (λ b. b.now) l.fn.line) (take l.k l.fn.found)
    (written_of g.W.Write.contents l.initial.output) (written_of g.W.Write.contents l.output)
