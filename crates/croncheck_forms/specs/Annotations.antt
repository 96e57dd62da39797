-- Findings as lines that a build reads, one for each. Sources: the GNU coding standards ("Formatting Error Messages"), GitHub's page on workflow
-- commands, and this crate's documentation of `Annotator`.
use Rattle.std.specs.Prelude.{◌≡◌, ℕ, ◌&&◌, ◌==◌, Bool, true, false, not, List, [], ◌∷◌, ◌++◌, codes, Option, Some, None, unwrap_or, string_bytes, if◌then◌else◌}
use Rattle.std.specs.Fmt.{decimal}
use Rattle.crontab.specs.Checked.{LineRead, TakesInTurn}
use Rattle.croncheck_forms.specs.declared.annotator.Style.{Style}
use Rattle.croncheck_forms.specs.declared.annotator.Style.TheVariants as styles
use Rattle.croncheck_findings.specs.declared.findings.Finding.{Finding}
use Rattle.croncheck_output.specs.declared.severity.Severity.{Severity}
use Rattle.croncheck_output.specs.declared.severity.Severity.TheVariants as severities
use Rattle.croncheck_report.specs.declared.report.Report.{Report}
use Rattle.croncheck_report.specs.declared.settings.Settings.{Settings}
use Rattle.croncheck_output.specs.Severity.{severity_name}
use Rattle.croncheck_findings.specs.Findings.{findings_seen, findings_said, findings_of_line, findings_of_file, last_line}
use Rattle.croncheck_output.specs.Output.{Written, WritesText}
use Rattle.croncheck_reading.specs.Progress.{Reports}
use Rattle.croncheck_output.specs.Escaped.{bytes_shown}
use Rattle.croncheck_reading.specs.Stand.{Stand}
use Rattle.croncheck_reading.specs.Tally.{one_more}

-- ---- as gcc has them

-- a finding at a line of a file, its column in bytes, from 1
abbrev pub gcc_text : List ℕ → ℕ → Finding → List ℕ
gcc_text file number f =
    file ++ (codes ":" ++ (decimal number ++ (codes ":" ++ (decimal (one_more f.extent.start) ++ (codes ": " ++ (severity_name f.severity
    ++ (codes ": " ++ (string_bytes f.text ++ (codes " [" ++ (f.name.now ++ codes "]"))))))))))

-- its line, as bytes of files are shown: so it has one line feed, which is its last byte
abbrev pub gcc_line : List ℕ → ℕ → Finding → List ℕ
gcc_line file number f = bytes_shown (gcc_text file number f) ++ 10 ∷ []

-- ---- as commands of a GitHub workflow

-- what stands for a byte of a message that doesn't stand for itself: a percent sign, a carriage return and a line feed
abbrev pub message_escape : ℕ → Option (List ℕ)
message_escape b =
    if b == 37 then Some (codes "%25") else if b == 13 then Some (codes "%0D") else if b == 10 then Some (codes "%0A") else None

-- of the value of a property: also a colon and a comma
abbrev pub property_escape : ℕ → Option (List ℕ)
property_escape b = if b == 58 then Some (codes "%3A") else if b == 44 then Some (codes "%2C") else message_escape b

abbrev pub escape_of : Bool → ℕ → Option (List ℕ)
escape_of is_property b = if is_property then property_escape b else message_escape b

-- a byte as it stands there
abbrev pub escaped_byte : Bool → ℕ → List ℕ
escaped_byte is_property b = unwrap_or (escape_of is_property b) (b ∷ [])

-- the bytes of the value of a property, or of a message
abbrev pub escaped_bytes : Bool → List ℕ → List ℕ
escaped_bytes is_property [] = []
escaped_bytes is_property (b ∷ bs) = escaped_byte is_property b ++ escaped_bytes is_property bs

-- the byte ends no line: a command ends with its line, and the next begins after it
abbrev pub ends_no_line : ℕ → Bool
ends_no_line b = not (b == 10) && not (b == 13)

-- and no value of a property: one ends with a comma, and the last with a colon
abbrev pub ends_no_value : ℕ → Bool
ends_no_value b = (not (b == 58) && not (b == 44)) && ends_no_line b

-- a byte ends no value of a property, or no line of a command
abbrev pub ends_nothing : Bool → ℕ → Bool
ends_nothing is_property b = if is_property then ends_no_value b else ends_no_line b

-- the command for how grave a finding is
abbrev pub command_name : Severity → List ℕ
command_name severities.Error = codes "error"
command_name severities.Warning = codes "warning"
command_name severities.Note = codes "notice"

-- the lines and the columns, in bytes from 1; the second column is that after the last byte
abbrev pub github_place : ℕ → Finding → List ℕ
github_place number f =
    codes ",line=" ++ (decimal number ++ (codes ",endLine=" ++ (decimal number ++ (codes ",col=" ++ (decimal (one_more f.extent.start)
    ++ (codes ",endColumn=" ++ (decimal (one_more f.extent.end) ++ codes ",title=")))))))

-- the command of a finding at a line of a file
abbrev pub github_line : List ℕ → ℕ → Finding → List ℕ
github_line file number f =
    (codes "::" ++ (command_name f.severity ++ codes " file=")) ++ (escaped_bytes true file ++ (github_place number f ++ (escaped_bytes true f.name.now
    ++ (codes "::" ++ (escaped_bytes false (string_bytes f.text) ++ codes "\n")))))

-- ---- what is written

-- the line of a finding
abbrev pub line_of : Style → List ℕ → ℕ → Finding → List ℕ
line_of styles.Gcc file number f = gcc_line file number f
line_of styles.Github file number f = github_line file number f

-- the line of a finding was written
abbrev pub WritesLine : Style → List ℕ → ℕ → Written → Finding → Written → Type 0
WritesLine style file number old f new = WritesText (line_of style file number f) old new

-- the line of each of some findings was written, in order
abbrev pub WritesLines : Style → List ℕ → ℕ → List Finding → Written → Written → Type 0
WritesLines style file number found old new = TakesInTurn (WritesLine style file number) old found new

-- what a line leaves: a line of all that is found of it
pub record Annotates (style : Style) (s : Settings) (old : Stand) (before : Written) (y : LineRead) (new : Stand) (after : Written) : Type 0 where
  pub report : Report
  pub reported : Reports s old y report new
  pub found : List Finding
  pub found_are : findings_seen found ≡ findings_of_line y.bytes report
  pub written : WritesLines style new.file.name new.lines found before after

-- what the end of a file leaves: a line of all that is found of it as a whole
pub record AnnotatesFile (style : Style) (s : Settings) (stand : Stand) (old new : Written) : Type 0 where
  pub found : List Finding
  pub found_are : findings_said found ≡ findings_of_file s.dialect stand.lines stand.file
  pub written : WritesLines style stand.file.name (last_line stand.lines) found old new
