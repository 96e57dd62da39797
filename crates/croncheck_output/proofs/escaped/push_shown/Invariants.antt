use Rattle.std.proofs.Common.{◌≡◌, ◌++◌, length}
use Rattle.std.specs.Prelude.{string_bytes}
use Rattle.croncheck_output.specs.Escaped.{bytes_shown}
use Rattle.croncheck_output.proofs.escaped.push_shown.Given as goal

abbrev pub invariant-loop-rest : goal.invariant-loop-rest
invariant-loop-rest l = string_bytes l.text ++ bytes_shown l.rest ≡ string_bytes l.initial.text ++ bytes_shown l.fn.bytes

abbrev pub decreases-loop-rest : goal.decreases-loop-rest
decreases-loop-rest l = length l.rest
