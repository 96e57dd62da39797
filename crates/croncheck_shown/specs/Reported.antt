-- The text of a line's report, and what a line leaves that is told so. Source: this crate's documentation of `Reporter`.
use Rattle.std.specs.Prelude.{◌≡◌, ℕ, Bool, List, [], ◌∷◌, ◌++◌, true, false, codes, Option, Some, None, option_map, string_bytes, if◌then◌else◌}
use Rattle.std.specs.Str.{bytes_eq}
use Rattle.croncheck_findings.specs.Findings.{Found, findings_seen, findings_of_line}
use Rattle.croncheck_findings.specs.declared.findings.Finding.{Finding}
use Rattle.croncheck_output.specs.declared.severity.Severity.{Severity}
use Rattle.croncheck_output.specs.declared.severity.Severity.TheVariants as severities
use Rattle.croncheck_output.specs.declared.look.Look.{Look}
use Rattle.croncheck_report.specs.declared.report.Report.{Report}
use Rattle.croncheck_report.specs.declared.settings.Settings.{Settings}
use Rattle.crontab.specs.Checked.{LineRead}
use Rattle.croncheck_report.specs.FileSeen.{ending_of}
use Rattle.croncheck_output.specs.Look.{broken_text, painted_text}
use Rattle.croncheck_output.specs.Output.{Written, WritesApart}
use Rattle.croncheck_shown.specs.Shown.{is_told, place_text}
use Rattle.croncheck_reading.specs.Stand.{Stand}
use Rattle.croncheck_reading.specs.Progress.{Reports}

-- a field in front of what a finding of it says
abbrev pub field_front : Option (List ℕ) → List ℕ
field_front None = []
field_front (Some field) = field ++ codes ": "

-- what a warning or a note says, after the word for which of them it is: its name, its field, if it is of one, and its text
abbrev pub named_text : Finding → List ℕ
named_text f = codes " " ++ (f.name.now ++ (codes ": " ++ (field_front (option_map (λ field. field.now) f.field) ++ string_bytes f.text)))

-- a word in the colour of a finding, and what the finding says
abbrev pub text_after_word : Look → List ℕ → Finding → List ℕ
text_after_word look word f = painted_text look.has_color f.severity word ++ broken_text look.width (named_text f)

-- the program of a preset refuses the pattern, which is read here
abbrev pub is_by_program : Finding → Bool
is_by_program f = bytes_eq f.name.now (codes "preset")

-- what is said of an error: why a line is refused stands alone below it, with no name
abbrev pub error_text : Look → Finding → List ℕ
error_text look f =
    if is_by_program f then text_after_word look (codes "error:") f
    else painted_text look.has_color f.severity (broken_text look.width (string_bytes f.text))

-- what is said of a finding that is this grave
abbrev pub said_as : Look → Severity → Finding → List ℕ
said_as look severities.Error f = error_text look f
said_as look severities.Warning f = text_after_word look (codes "warning:") f
said_as look severities.Note f = text_after_word look (codes "note:") f

-- a finding, on lines of its own below the line that it is of
abbrev pub line_below : Look → Finding → List ℕ
line_below look f = codes "\n  " ++ said_as look f.severity f

-- findings, in order
abbrev pub text_below : Look → List Finding → List ℕ
text_below look [] = []
text_below look (f ∷ fs) = line_below look f ++ text_below look fs

-- the text is lines: the first begins with the place of a line of a file, and all that is found of it stands last, in order
abbrev pub AreLinesFound : Look → List ℕ → ℕ → List ℕ → Report → List ℕ → Type 0
AreLinesFound look file number line report text =
    (head : List ℕ) × (found : List Finding) × (findings_seen found ≡ findings_of_line line report)
    × (text ≡ place_text file number ++ (head ++ (text_below look found ++ 10 ∷ [])))

-- the text of the report of a line of a file: nothing where there is nothing to tell
pub record IsTextOf (look : Look) (file : List ℕ) (number : ℕ) (line : List ℕ) (report : Report) (text : List ℕ) : Type 0 where
  pub silent : is_told report ≡ false → text ≡ []
  pub told : is_told report ≡ true → AreLinesFound look file number line report text

-- it was written, set apart
abbrev pub WritesReport : Look → List ℕ → ℕ → List ℕ → Report → Written → Written → Type 0
WritesReport look file number line report old new = (text : List ℕ) × IsTextOf look file number line report text × WritesApart text old new

-- what is said of the file as a whole was written, set apart
abbrev pub WritesEnding : Settings → Stand → Written → Written → Type 0
WritesEnding s stand old new = WritesApart (ending_of s.dialect stand.lines stand.file) old new

-- what a line leaves: the text of its report was written
abbrev pub Tells : Settings → Stand → Written → LineRead → Stand → Written → Type 0
Tells s old before y new after =
    (report : Report) × Reports s old y report new × WritesReport s.look new.file.name new.lines y.bytes report before after

-- ---- what is found alone

-- the text of findings of a line of a file: nothing where there are none, and else lines that begin with its place
abbrev pub IsTextOfFound : Look → List ℕ → ℕ → List Finding → List ℕ → Type 0
IsTextOfFound look file number [] text = text ≡ []
IsTextOfFound look file number (f ∷ fs) text = (head : List ℕ) × (text ≡ place_text file number ++ (head ++ (text_below look (f ∷ fs) ++ 10 ∷ [])))

-- the text of all that is found of a line of a file
abbrev pub IsFinding : Look → List ℕ → ℕ → List ℕ → Report → List ℕ → Type 0
IsFinding look file number line report text =
    (found : List Finding) × (findings_seen found ≡ findings_of_line line report) × IsTextOfFound look file number found text

-- it was written, set apart
abbrev pub WritesFinding : Look → List ℕ → ℕ → List ℕ → Report → Written → Written → Type 0
WritesFinding look file number line report old new = (text : List ℕ) × IsFinding look file number line report text × WritesApart text old new

-- what a line leaves: what is found of it was written
abbrev pub TellsFound : Settings → Stand → Written → LineRead → Stand → Written → Type 0
TellsFound s old before y new after =
    (report : Report) × Reports s old y report new × WritesFinding s.look new.file.name new.lines y.bytes report before after

-- ---- what is found of a pattern

-- a text of whole lines ends with these findings, as they stand below a line
abbrev pub EndsWithFound : Look → List Found → List ℕ → Type 0
EndsWithFound look seen text = (found : List Finding) × (front : List ℕ) × (findings_seen found ≡ seen) × (text ≡ front ++ (text_below look found ++ 10 ∷ []))
