use Rattle.std.proofs.Common.{take}
use Rattle.croncheck_forms.specs.Annotations.{WritesLines}
use Rattle.croncheck_output.specs.Output.{written_of}
use Rattle.croncheck_forms.proofs.annotator.write_lines.Given as goal

abbrev pub invariant-loop-k : goal.invariant-loop-k
invariant-loop-k g l =
    WritesLines l.fn.style l.fn.place.file.now l.fn.place.line (take l.k l.fn.found) (written_of g.W.Write.contents l.initial.output)
    (written_of g.W.Write.contents l.output)
