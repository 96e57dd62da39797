use Rattle.std.proofs.Common.{◌≡◌, length}
use Rattle.croncheck_warnings.specs.Hidden.{has_hidden}
use Rattle.croncheck_warnings.proofs.warnings.hidden.has_hidden.Given as goal

abbrev pub invariant-loop-rest : goal.invariant-loop-rest
invariant-loop-rest l = has_hidden l.rest ≡ has_hidden l.fn.text

abbrev pub decreases-loop-rest : goal.decreases-loop-rest
decreases-loop-rest l = length l.rest
