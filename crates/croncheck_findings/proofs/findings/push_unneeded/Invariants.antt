use Rattle.std.proofs.Common.{◌≡◌, ◌++◌, take}
use Rattle.std.specs.Prelude.{map}
use Rattle.croncheck_findings.specs.Findings.{findings_seen, finding_of_unneeded}
use Rattle.croncheck_findings.proofs.findings.push_unneeded.Given as goal

abbrev pub invariant-loop-name : goal.invariant-loop-name
invariant-loop-name l = findings_seen l.found.items ≡ findings_seen l.initial.found.items ++ map (finding_of_unneeded l.fn.extent) (take l.name-index l.fn.names)
