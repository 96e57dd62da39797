use Rattle.std.proofs.Common.{◌≡◌, take}
use Rattle.std.specs.Prelude.{filter}
use Rattle.croncheck_findings.specs.Findings.{is_of_preset}
use Rattle.croncheck_findings.proofs.findings.those_of_preset.Given as goal

abbrev pub invariant-loop-warning : goal.invariant-loop-warning
invariant-loop-warning l = l.told.items ≡ filter is_of_preset (take l.warning-index l.fn.warnings)
