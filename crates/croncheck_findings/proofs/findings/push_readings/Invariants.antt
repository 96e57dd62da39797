use Rattle.std.proofs.Common.{◌≡◌, ◌++◌, take}
use Rattle.std.specs.Prelude.{map}
use Rattle.croncheck_findings.specs.Findings.{findings_seen, finding_of_reading}
use Rattle.croncheck_findings.proofs.findings.push_readings.Given as goal

abbrev pub invariant-loop-reading : goal.invariant-loop-reading
invariant-loop-reading l = findings_seen l.found.items ≡ findings_seen l.initial.found.items ++ map (finding_of_reading l.fn.extent) (take l.reading-index l.fn.readings)
