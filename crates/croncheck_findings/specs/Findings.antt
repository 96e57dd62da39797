-- What is found of a line and of a file, each thing with its place. Source: this crate's documentation of `Finding`.
use Rattle.std.specs.Prelude.{ℕ, Bool, true, false, List, map, filter, ◌+◌, ◌-◌, ◌==◌, ◌&&◌, ◌||◌, not, [], ◌∷◌, ◌++◌, length, codes, Option, Some, None, option_map, is_some, string_bytes, if◌then◌else◌}
use Rattle.croncheck_warnings.specs.declared.warnings.Warning.TheVariants as warnings
use Rattle.std.specs.Borrow.{Bor}
use Rattle.std.specs.List.{list_all}
use Rattle.croner.specs.declared.parser.fault.PatternField.{PatternField}
use Rattle.croner.specs.declared.parser.fault.PatternField.TheVariants as fields
use Rattle.crontab.specs.declared.bytes.Kind.TheVariants as kinds
use Rattle.crontab.specs.declared.line.Dialect.{Dialect}
use Rattle.crontab.specs.declared.line.Dialect.TheVariants as dialects
use Rattle.crontab.specs.declared.line.Fault.{Fault}
use Rattle.crontab.specs.declared.line.Fault.TheVariants as faults
use Rattle.crontab.specs.declared.notes.Note.{Note}
use Rattle.crontab.specs.Bytes.{front, text_after}
use Rattle.crontab.specs.Line.{next}
use Rattle.crontab.specs.Notes.{note_name}
use Rattle.croncheck_changes.specs.declared.changes.meetings.Met.{Met}
use Rattle.croncheck_changes.specs.declared.changes.meetings.Meetings.{Meetings}
use Rattle.croncheck_findings.specs.declared.findings.Finding.{Finding}
use Rattle.croncheck_output.specs.declared.severity.Severity.{Severity}
use Rattle.croncheck_output.specs.declared.severity.Severity.TheVariants as severities
use Rattle.croncheck_findings.specs.declared.findings.Extent.{Extent}
use Rattle.croncheck_report.specs.declared.report.JobReport.{JobReport}
use Rattle.croncheck_report.specs.declared.report.Report.{Report}
use Rattle.croncheck_report.specs.declared.report.Report.TheVariants as reports
use Rattle.croncheck_report.specs.declared.report.SettingReport.{SettingReport}
use Rattle.croncheck_report.specs.declared.report.Why.{Why}
use Rattle.croncheck_report.specs.declared.report.Why.TheVariants as whys
use Rattle.croncheck_warnings.specs.declared.warnings.OtherWarning.{OtherWarning}
use Rattle.croncheck_warnings.specs.declared.warnings.OtherWarning.TheVariants as others
use Rattle.croncheck_warnings.specs.declared.warnings.Warning.{Warning}
use Rattle.croncheck_changes.specs.Changes.{is_warned, name_of}
use Rattle.croncheck_files.specs.declared.fitness.Unfit.{Unfit}
use Rattle.croncheck_report.specs.FileSeen.{File, is_misnamed_as, has_many_lines, many_lines_text}
use Rattle.croncheck_files.specs.Fitness.{unfit_name, unfit_text}
use Rattle.croncheck_findings.specs.Found.{is_told_below}
use Rattle.croncheck_warnings.specs.declared.presets.Reading.{Reading}
use Rattle.croncheck_report.specs.Report.{blanks_of, notes_of_job, notes_of_refusal, taken_of}
use Rattle.croncheck_output.specs.Escaped.{is_printed}
use Rattle.croncheck_warnings.specs.Warnings.{warning_name, other_name, field_name, field_of, is_refusal_elsewhere}

-- ---- values

-- a finding but for its text: how grave it is, its name, that of the field that it is of, if it is of one, and its place in the line
pub record Found : Type 0 where
  pub severity : Severity
  pub name : List ℕ
  pub field : Option (List ℕ)
  pub extent : Extent

-- what is seen of a finding but for its text
abbrev pub finding_seen : Finding → Found
finding_seen f = record { severity = f.severity; name = f.name.now; field = option_map (λ field. field.now) f.field; extent = f.extent }

-- the same of several findings
abbrev pub findings_seen : List Finding → List Found
findings_seen all = map finding_seen all

-- one of no field
abbrev pub finding_without_field : Severity → List ℕ → Extent → Found
finding_without_field severity name extent = record { severity = severity; name = name; field = None; extent = extent }

-- a list of one, or of none
abbrev pub only_if : Bool → Found → List Found
only_if is_so f = if is_so then f ∷ [] else []

-- ---- places

-- a line after its blanks
abbrev pub content_extent : List ℕ → Extent
content_extent line = record { start = blanks_of line; end = length line }

-- the times of a line, which stand after its blanks
abbrev pub times_extent : List ℕ → List ℕ → Extent
times_extent line times = record { start = blanks_of line; end = blanks_of line + length times }

-- times have six words or more: then the first is of the seconds
abbrev pub has_seconds : List ℕ → Bool
has_seconds times = not (length (next (next (next (next (next times))))) == 0)

-- a text from a field on, where it begins with the minutes
abbrev pub text_from_field : PatternField → List ℕ → List ℕ
text_from_field fields.Seconds text = text
text_from_field fields.Minutes text = text
text_from_field fields.Hours text = next text
text_from_field fields.DayOfMonth text = next (next text)
text_from_field fields.Month text = next (next (next text))
text_from_field fields.Weekday text = next (next (next (next text)))
text_from_field fields.Year text = next (next (next (next (next text))))

abbrev pub is_of_seconds : PatternField → Bool
is_of_seconds fields.Seconds = true
is_of_seconds other = false

-- the same, where seconds may stand in front
abbrev pub text_from_place : Bool → PatternField → List ℕ → List ℕ
text_from_place after_seconds field text = text_from_field field (if after_seconds && not (is_of_seconds field) then next text else text)

-- the word with which the rest of a line begins. No field has an equals sign
abbrev pub word_extent : List ℕ → List ℕ → Extent
word_extent line rest = record { start = length line - length rest; end = (length line - length rest) + length (front kinds.Name rest) }

-- a field of a line with these times
abbrev pub field_extent : List ℕ → List ℕ → PatternField → Extent
field_extent line times field = word_extent line (text_from_place (has_seconds times) field (text_after kinds.Blank line))

-- no other white space than spaces and tabs stands in a text
abbrev pub is_plain : List ℕ → Bool
is_plain text = list_all (λ b. is_printed b || b == 9) text

-- the place of a field of a line, and else of its times
abbrev pub place_of : List ℕ → List ℕ → Option PatternField → Extent
place_of line times None = times_extent line times
place_of line times (Some field) = if is_plain times then field_extent line times field else times_extent line times

-- ---- a line

-- the word for why cron refuses a line
abbrev pub fault_kind : Fault → List ℕ
fault_kind faults.Nul = codes "nul"
fault_kind faults.Minutes = codes "minutes"
fault_kind faults.Hours = codes "hours"
fault_kind faults.Days = codes "days"
fault_kind faults.Months = codes "months"
fault_kind faults.Weekdays = codes "weekdays"
fault_kind faults.Nickname = codes "nickname"
fault_kind faults.User = codes "user"
fault_kind faults.Command = codes "command"
fault_kind faults.LongCommand = codes "long-command"

-- the word for why a line is refused
abbrev pub refusal_kind : Why → List ℕ
refusal_kind (whys.Cron fault) = fault_kind fault
refusal_kind (whys.AfterOpenLine fault) = fault_kind fault
refusal_kind (whys.Pattern fault taken) = codes "pattern"
refusal_kind (whys.Crate e) = codes "text"
refusal_kind whys.NotText = codes "not-utf-8"
refusal_kind whys.NoUser = codes "unknown-user"

-- how grave a warning is: that another program refuses the pattern is a fault
abbrev pub severity_of : Warning → Severity
severity_of w = if is_refusal_elsewhere w then severities.Error else severities.Warning

-- a warning of a line with these times, at the place of its field, if it has one
abbrev pub finding_of_warning : List ℕ → List ℕ → Warning → Found
finding_of_warning line times w = record {
  severity = severity_of w;
  name = warning_name w;
  field = option_map field_name (field_of w);
  extent = place_of line times (field_of w);
}

-- a note of a line's bytes
abbrev pub finding_of_note : Extent → Note → Found
finding_of_note extent note = finding_without_field severities.Note (note_name note) extent

-- `preset`: what another program takes of a pattern that is refused
abbrev pub finding_of_reading : Extent → Reading → Found
finding_of_reading extent reading = finding_without_field severities.Note (codes "preset") extent

-- the warning of a change of the clock
abbrev pub finding_of_change : Extent → Met → Found
finding_of_change extent c = finding_without_field severities.Warning (name_of c.meeting.range c.meeting.fate) extent

-- the same, where a change meets the job and there is one
abbrev pub of_range : Extent → Option Met → List Found
of_range extent None = []
of_range extent (Some c) = only_if (is_warned c) (finding_of_change extent c)

-- that of the gap stands first
abbrev pub of_meetings : Extent → Meetings → List Found
of_meetings extent met = of_range extent met.gap ++ of_range extent met.repeated

-- `not-needed`: a name that is allowed and doesn't stand at the job
abbrev pub finding_of_unneeded : Extent → Bor (List ℕ) → Found
finding_of_unneeded extent name = finding_without_field severities.Warning (codes "not-needed") extent

-- `unknown-name`: a comment allows a name that no warning has
abbrev pub finding_of_unknown_name : List ℕ → Found
finding_of_unknown_name line = finding_without_field severities.Warning (codes "unknown-name") (content_extent line)

-- what is found of the line of a job: its notes, its own warnings, those of changes of the clock, an earlier job that is the same, and the names
-- that are allowed in vain
abbrev pub findings_of_job : List ℕ → JobReport → List Found
findings_of_job line j =
    map (finding_of_note (times_extent line j.schedule.now)) (notes_of_job (option_map (λ c. c.now) j.command) line)
    ++ (map (finding_of_warning line j.schedule.now) (filter is_told_below j.warnings.items)
    ++ (of_meetings (times_extent line j.schedule.now) j.meetings
    ++ (only_if (is_some j.same) (finding_without_field severities.Warning (codes "same-job") (times_extent line j.schedule.now))
    ++ map (finding_of_unneeded (times_extent line j.schedule.now)) j.unneeded.items)))

-- a warning of a setting, at the place of its text
abbrev pub of_setting : List ℕ → OtherWarning → Found
of_setting line w = finding_without_field severities.Warning (other_name w) (content_extent line)

-- what is found of a setting: that bytes hide others, that it says a zone, that it has no effect, that its value isn't expanded, and that it is
-- no address of mail
abbrev pub findings_of_setting : List ℕ → SettingReport → List Found
findings_of_setting line s =
    only_if s.is_hiding (of_setting line others.ControlByte)
    ++ (only_if s.is_zone (of_setting line others.NoZone)
    ++ (only_if s.has_no_effect (of_setting line others.NoEffect)
    ++ (only_if s.is_not_expanded (of_setting line others.NotExpanded) ++ only_if s.sends_no_mail (of_setting line others.NoMail))))

-- what is found of a line with a report: nothing of a good one. Where it is refused that stands first, after it its notes, and what another
-- program takes of it
abbrev pub findings_of_line : List ℕ → Report → List Found
findings_of_line line reports.Silent = []
findings_of_line line (reports.Misnamed name) = finding_of_unknown_name line ∷ []
findings_of_line line (reports.Setting seen is_fed) = findings_of_setting line seen
findings_of_line line (reports.Job j) = findings_of_job line j
findings_of_line line (reports.Refused start end why) =
    finding_without_field severities.Error (refusal_kind why) (record { start = start; end = end })
    ∷ (map (finding_of_note (record { start = start; end = end })) (notes_of_refusal why line) ++ map (finding_of_reading (record { start = start; end = end })) (taken_of why))

-- ---- a file

-- a finding and its text
pub record Said : Type 0 where
  pub found : Found
  pub text : List ℕ

abbrev pub finding_said : Finding → Said
finding_said f = record { found = finding_seen f; text = string_bytes f.text }

-- the same of several findings
abbrev pub findings_said : List Finding → List Said
findings_said all = map finding_said all

-- a reason for which cron ignores a file as a whole, at no byte of its line
abbrev pub reason : List ℕ → List ℕ → Said
reason name text = record {
  found = finding_without_field severities.Error name (record { start = 0; end = 0 });
  text = codes "cron ignores the whole file: " ++ text;
}

abbrev pub said_if : Bool → Said → List Said
said_if is_so s = if is_so then s ∷ [] else []

-- what is found of a file that cron ignores for what the file system says of it, if it does
abbrev pub said_of_unfit : Option Unfit → List Said
said_of_unfit None = []
said_of_unfit (Some unfit) = reason (unfit_name unfit) (unfit_text unfit) ∷ []

-- what is found of a crontab of so many lines as a whole
abbrev pub findings_of_crontab : Dialect → ℕ → File → List Said
findings_of_crontab dialect lines f =
    said_of_unfit f.unfit
    ++ (said_if f.has_refused (reason (codes "refused-line") (codes "a line is refused"))
    ++ (said_if f.is_unfed (reason (codes "no-newline") (codes "its last line has no line feed"))
    ++ said_if (has_many_lines dialect lines f) (reason (codes "many-lines") (many_lines_text dialect f))))

-- the same of a file that may be one of patterns, which cron doesn't read
abbrev pub findings_of_lines : Dialect → ℕ → File → List Said
findings_of_lines dialects.User lines f = findings_of_crontab dialects.User lines f
findings_of_lines dialects.System lines f = findings_of_crontab dialects.System lines f
findings_of_lines dialects.Patterns lines f = []

-- `file-name`: cron passes over a file for its name
abbrev pub name_said : List ℕ → Said
name_said text = record {
  found = finding_without_field severities.Warning (codes "file-name") (record { start = 0; end = 0 });
  text = text;
}

-- of one of which no line is read
abbrev pub file_name : Said
file_name = name_said (codes "cron passes over a file of this name, and no line of it is read here: write letters, digits, _ and - alone")

-- of one whose lines are read
abbrev pub misnamed : Said
misnamed = name_said (codes "cron passes over a file of this name: write letters, digits, _ and - alone")

-- what is found of a file as a whole whose lines are read
abbrev pub findings_of_read : Dialect → ℕ → File → List Said
findings_of_read dialect lines f = said_if (is_misnamed_as dialect f) misnamed ++ findings_of_lines dialect lines f

-- what is found of a file as a whole
abbrev pub findings_of_file : Dialect → ℕ → File → List Said
findings_of_file dialect lines f = if f.is_passed_over then file_name ∷ [] else findings_of_read dialect lines f

-- where it is told: at the last of so many lines, and at line 1 where there is none
abbrev pub last_line : ℕ → ℕ
last_line lines = if lines == 0 then 1 else lines

-- ---- patterns whose meaning alone is told

-- what another program makes otherwise
abbrev pub is_of_preset : Warning → Bool
is_of_preset (warnings.Preset reading) = true
is_of_preset other = false

-- what is found of a pattern with this report where its meaning alone is told: of one that is read what another program makes otherwise
abbrev pub described : List ℕ → Report → List Found
described pattern reports.Silent = findings_of_line pattern reports.Silent
described pattern (reports.Misnamed name) = findings_of_line pattern (reports.Misnamed name)
described pattern (reports.Setting seen is_fed) = findings_of_line pattern (reports.Setting seen is_fed)
described pattern (reports.Job j) = map (finding_of_warning pattern j.schedule.now) (filter is_of_preset j.warnings.items)
described pattern (reports.Refused start end why) = findings_of_line pattern (reports.Refused start end why)
