use Rattle.std.proofs.Common.{◌≡◌, ◌++◌, length}
use Rattle.std.specs.Prelude.{string_bytes}
use Rattle.croncheck_output.specs.Escaped.{replaced}
use Rattle.croncheck_output.proofs.escaped.push_replaced.Given as goal

abbrev pub invariant-loop-text : goal.invariant-loop-text
invariant-loop-text l = string_bytes l.text ++ replaced l.fn.sign l.fn.replacement l.rest ≡ string_bytes l.initial.text ++ replaced l.fn.sign l.fn.replacement l.fn.bytes

abbrev pub decreases-loop-text : goal.decreases-loop-text
decreases-loop-text l = length l.rest
