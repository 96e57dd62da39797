-- What is written of findings as one object of SARIF. Source: this crate's documentation of `Sarif`.
use Rattle.std.specs.Prelude.{◌≡◌, ℕ, List, codes, Option, Some, None}
use Rattle.crontab.specs.Checked.{LineRead, TakesInTurn}
use Rattle.serde_json.specs.Written.{compact_text}
use Rattle.croncheck_findings.specs.declared.findings.Finding.{Finding}
use Rattle.croncheck_report.specs.declared.report.Report.{Report}
use Rattle.croncheck_forms.specs.declared.sarif.columns.Columns.{Columns}
use Rattle.croncheck_report.specs.declared.settings.Settings.{Settings}
use Rattle.croncheck_findings.specs.Findings.{findings_seen, findings_said, findings_of_line, findings_of_file, last_line}
use Rattle.croncheck_output.specs.Output.{Written, WritesItem}
use Rattle.croncheck_reading.specs.Progress.{Reports}
use Rattle.croncheck_forms.specs.Sarif.{AreColumns, result_object}
use Rattle.croncheck_reading.specs.Stand.{Stand}

-- what stands after all results
abbrev pub tail_text : List ℕ
tail_text = codes "\n]}]}\n"

-- the result of a finding at a line of a file was written, with a comma after the one before, or the head in front of the first
abbrev pub WritesResult : List ℕ → List ℕ → ℕ → Option (List ℕ) → Written → Finding → Written → Type 0
WritesResult head file number line old f new =
    (columns : Option Columns) × AreColumns line f.extent columns × WritesItem head (codes ",\n") (compact_text (result_object file number columns f)) old new

-- that of each of some findings was written, in order
abbrev pub WritesResults : List ℕ → List ℕ → ℕ → Option (List ℕ) → List Finding → Written → Written → Type 0
WritesResults head file number line found old new = TakesInTurn (WritesResult head file number line) old found new

-- what a line leaves: a result of all that is found of it
pub record TellsResults (head : List ℕ) (s : Settings) (old : Stand) (before : Written) (y : LineRead) (new : Stand) (after : Written) : Type 0 where
  pub report : Report
  pub reported : Reports s old y report new
  pub found : List Finding
  pub found_are : findings_seen found ≡ findings_of_line y.bytes report
  pub written : WritesResults head new.file.name new.lines (Some y.bytes) found before after

-- what the end of a file leaves: a result of all that is found of it as a whole, at no column
pub record TellsFileResults (head : List ℕ) (s : Settings) (stand : Stand) (old new : Written) : Type 0 where
  pub found : List Finding
  pub found_are : findings_said found ≡ findings_of_file s.dialect stand.lines stand.file
  pub written : WritesResults head stand.file.name (last_line stand.lines) None found old new
