use Rattle.std.proofs.Common.{◌≡◌, ◌++◌, take}
use Rattle.std.specs.Prelude.{map}
use Rattle.croncheck_findings.specs.Findings.{findings_seen, finding_of_warning}
use Rattle.croncheck_findings.proofs.findings.push_each_warning.Given as goal

abbrev pub invariant-loop-warning : goal.invariant-loop-warning
invariant-loop-warning l =
    findings_seen l.found.items ≡ findings_seen l.initial.found.items ++ map (finding_of_warning l.fn.line l.fn.times) (take l.warning-index l.fn.warnings)
