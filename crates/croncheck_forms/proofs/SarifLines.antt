-- What is written of a line and of a file as results.
use Rattle.std.proofs.Common.{◌≡◌, ℕ, List, Option, Some, None, subst}
use Rattle.std.specs.Prelude.{codes}
use Rattle.crontab.specs.Checked.{LineRead}
use Rattle.serde_json.specs.Written.{compact_text}
use Rattle.croncheck_findings.specs.declared.findings.Finding.{Finding}
use Rattle.croncheck_report.specs.declared.report.Report.{Report}
use Rattle.croncheck_forms.specs.declared.sarif.columns.Columns.{Columns}
use Rattle.croncheck_report.specs.declared.settings.Settings.{Settings}
use Rattle.croncheck_findings.specs.Findings.{findings_seen, findings_said, findings_of_line, findings_of_file, last_line}
use Rattle.croncheck_output.specs.Output.{Written, WritesItem}
use Rattle.croncheck_reading.specs.Progress.{Reports}
use Rattle.croncheck_forms.specs.Sarif.{AreColumns, result_object}
use Rattle.croncheck_forms.specs.SarifForm.{WritesResult, WritesResults, TellsResults, TellsFileResults}
use Rattle.croncheck_reading.specs.Stand.{Stand}

-- the result of a finding was written
pub one_told : (head file : List ℕ) (number : ℕ) (line : Option (List ℕ)) (old new : Written) (f : Finding) (columns : Option Columns) (text : List ℕ)
    → AreColumns line f.extent columns → text ≡ compact_text (result_object file number columns f) → WritesItem head (codes ",\n") text old new
    → WritesResult head file number line old f new
one_told head file number line old new f columns text are is written =
    (columns, are, subst (λ (t : List ℕ). WritesItem head (codes ",\n") t old new) is written)

-- the results of all that is found of the next line were written
pub line_told : (head : List ℕ) (s : Settings) (old : Stand) (before : Written) (y : LineRead) (new : Stand) (after : Written) (report : Report)
    (found : List Finding) → Reports s old y report new → findings_seen found ≡ findings_of_line y.bytes report
    → WritesResults head new.file.name new.lines (Some y.bytes) found before after → TellsResults head s old before y new after
line_told head s old before y new after report found told are written =
    record { report = report; reported = told; found = found; found_are = are; written = written }

-- the results of all that is found of a file were written
pub file_told : (head : List ℕ) (s : Settings) (stand : Stand) (old new : Written) (found : List Finding)
    → findings_said found ≡ findings_of_file s.dialect stand.lines stand.file
    → WritesResults head stand.file.name (last_line stand.lines) None found old new → TellsFileResults head s stand old new
file_told head s stand old new found are written = record { found = found; found_are = are; written = written }
