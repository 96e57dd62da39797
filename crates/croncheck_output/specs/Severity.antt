-- How grave a finding is. Source: docs/CRONTAB.md.
use Rattle.std.specs.Prelude.{ℕ, List, codes}
use Rattle.croncheck_output.specs.declared.severity.Severity.{Severity}
use Rattle.croncheck_output.specs.declared.severity.Severity.TheVariants as severities

-- the word for how grave a finding is
abbrev pub severity_name : Severity → List ℕ
severity_name severities.Error = codes "error"
severity_name severities.Warning = codes "warning"
severity_name severities.Note = codes "note"
