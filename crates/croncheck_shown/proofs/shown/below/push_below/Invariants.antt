use Rattle.std.proofs.Common.{◌≡◌, ◌++◌, length}
use Rattle.std.specs.Prelude.{string_bytes}
use Rattle.croncheck_shown.specs.Reported.{text_below}
use Rattle.croncheck_shown.proofs.shown.below.push_below.Given as goal

abbrev pub invariant-loop-rest : goal.invariant-loop-rest
invariant-loop-rest l = string_bytes l.text ++ text_below l.fn.look l.rest ≡ string_bytes l.initial.text ++ text_below l.fn.look l.fn.found

abbrev pub decreases-loop-rest : goal.decreases-loop-rest
decreases-loop-rest l = length l.rest
