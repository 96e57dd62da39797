use Rattle.std.proofs.Common.{◌≡◌, ◌++◌, take}
use Rattle.std.specs.Prelude.{map}
use Rattle.croncheck_findings.specs.Findings.{findings_seen, finding_of_note}
use Rattle.croncheck_findings.proofs.findings.push_notes.Given as goal

abbrev pub invariant-loop-note : goal.invariant-loop-note
invariant-loop-note l = findings_seen l.found.items ≡ findings_seen l.initial.found.items ++ map (finding_of_note l.fn.extent) (take l.note-index l.fn.all)
