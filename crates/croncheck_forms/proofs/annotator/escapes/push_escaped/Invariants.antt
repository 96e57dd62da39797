use Rattle.std.proofs.Common.{◌≡◌, ◌++◌, length}
use Rattle.croncheck_forms.specs.Annotations.{escaped_bytes}
use Rattle.croncheck_forms.proofs.annotator.escapes.push_escaped.Given as goal

abbrev pub invariant-loop-rest : goal.invariant-loop-rest
invariant-loop-rest l = l.line.items ++ escaped_bytes l.fn.is_property l.rest ≡ l.initial.line.items ++ escaped_bytes l.fn.is_property l.fn.bytes

abbrev pub decreases-loop-rest : goal.decreases-loop-rest
decreases-loop-rest l = length l.rest
