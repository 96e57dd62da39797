use Rattle.std.proofs.Common.{◌≡◌, take}
use Rattle.std.specs.Prelude.{filter}
use Rattle.croncheck_findings.specs.Found.{is_told_below}
use Rattle.croncheck_findings.proofs.findings.warnings_told_below.Given as goal

abbrev pub invariant-loop-warning : goal.invariant-loop-warning
invariant-loop-warning l = l.told.items ≡ filter is_told_below (take l.warning-index l.fn.warnings)
