use Rattle.std.proofs.Common.{◌≡◌, take}
use Rattle.std.specs.Prelude.{filter}
use Rattle.croncheck_warnings.specs.Warnings.{holds, subject_seen}
use Rattle.croncheck_warnings.proofs.warnings.those_that_hold.Given as goal

abbrev pub invariant-loop-warning : goal.invariant-loop-warning
invariant-loop-warning l = l.found.items ≡ filter (holds (subject_seen l.fn.subject)) (take l.warning-index l.fn.warnings)
