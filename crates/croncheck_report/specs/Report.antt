-- What a line is told. Source: this crate's documentation of `Report`.
use Rattle.std.specs.Prelude.{◌≡◌, not, ◌||◌, ◌==◌, ℕ, ◌+◌, Bool, true, false, List, [], ◌++◌, length, map, Option, Some, None, option_map, is_some, Result, Ok, Err, string_bytes, IsUtf8, if◌then◌else◌}
use Rattle.std.specs.List.{list_any}
use Rattle.croner_base.specs.declared.errors.CronError.{CronError}
use Rattle.croner_pattern.specs.Meaning.{Meaning}
use Rattle.croner.specs.declared.parser.fault.PatternFault.{PatternFault}
use Rattle.croner.specs.parser.Grammar.{Refusal, outcome, Texts}
use Rattle.crontab.specs.declared.bytes.Kind.TheVariants as kinds
use Rattle.crontab.specs.declared.line.Entry.{Entry}
use Rattle.crontab.specs.declared.line.Entry.TheVariants as entries
use Rattle.crontab.specs.Bytes.{front, text_after}
use Rattle.crontab.specs.Content.{IsRefusalOf, IsFaultOf}
use Rattle.crontab.specs.Entries.{job_seen}
use Rattle.crontab.specs.declared.notes.Note.{Note}
use Rattle.crontab.specs.Notes.{notes_of}
use Rattle.crontab.specs.Line.{Timing, reboot, never, named, Task}
use Rattle.crontab.specs.Parsed.{crontab_settings}
use Rattle.crontab.specs.Setting.{is_not_expanded}
use Rattle.croncheck_changes.specs.declared.changes.meetings.Meetings.{Meetings}
use Rattle.croncheck_report.specs.declared.report.JobReport.{JobReport}
use Rattle.croncheck_report.specs.declared.report.Report.TheVariants as reports
use Rattle.croncheck_report.specs.declared.report.Report.{Report}
use Rattle.croncheck_report.specs.declared.report.Same.{Same}
use Rattle.croncheck_report.specs.declared.report.SettingReport.{SettingReport}
use Rattle.croncheck_report.specs.declared.report.Why.TheVariants as whys
use Rattle.croncheck_report.specs.declared.report.Why.{Why}
use Rattle.croncheck_runs.specs.declared.runs.Runner.{Runner}
use Rattle.croncheck_runs.specs.declared.runs.Runner.TheVariants as runners
use Rattle.croncheck_report.specs.declared.settings.Settings.{Settings}
use Rattle.croncheck_report.specs.declared.told.Told.TheVariants as tolds
use Rattle.croncheck_report.specs.declared.told.Told.{Told}
use Rattle.croncheck_warnings.specs.declared.warnings.Warning.{Warning}
use Rattle.croncheck_report.specs.Allowed.{unknown_name_in}
use Rattle.croncheck_changes.specs.Changes.{AreMeetings, none_met, are_warned}
use Rattle.croncheck_warnings.specs.Effect.{has_no_effect}
use Rattle.croncheck_warnings.specs.Hidden.{has_hidden_within}
use Rattle.croncheck_warnings.specs.Mail.{names_no_address}
use Rattle.croncheck_report.specs.Settings.{start_of}
use Rattle.croncheck_report.specs.Told.{TellsMeaning, TellsTiming, cron_of, is_at_window_end, is_never, is_told_past, is_idle}
use Rattle.croncheck_warnings.specs.Users.{users_seen, is_unknown, user_start, user_end}
use Rattle.croncheck_warnings.specs.declared.presets.Reading.{Reading}
use Rattle.croncheck_warnings.specs.declared.warnings.Warning.TheVariants as warnings
use Rattle.croncheck_warnings.specs.Presets.{AreReadings}
use Rattle.croner_presets.specs.declared.preset.Preset.{Preset}
use Rattle.croncheck_warnings.specs.Warnings.{fields_of_schedule, AreFieldsOfPattern, Subject, warnings_of, is_refusal_elsewhere}

-- ---- warnings

-- the meaning that was read
abbrev pub meaning_read : Result Meaning Refusal → Option Meaning
meaning_read (Ok m) = Some m
meaning_read (Err refusal) = None

-- the meaning of a job's times, where they have one
abbrev pub meaning_of_timing : Timing → Option Meaning
meaning_of_timing reboot = None
meaning_of_timing never = None
meaning_of_timing (named text both) = meaning_read (outcome (crontab_settings both) text)

-- what is looked at of a job or a pattern that was told so
abbrev pub subject_of : Option Texts → Option Meaning → Option (List ℕ) → Option (List ℕ) → Option (List ℕ) → Bool → Bool → Told → Subject
subject_of fields meaning users user command is_crontab is_fed told = record {
  fields = fields;
  meaning = meaning;
  user = user;
  users = users;
  command = command;
  is_crontab = is_crontab;
  is_fed = is_fed;
  is_past = is_told_past told;
  is_never = is_never told;
  is_at_window_end = is_at_window_end told;
}

-- the warnings of a job of a crontab, with these texts and this meaning, that was told so, where these users are known
pub record IsWarned (is_fed : Bool) (users : Option (List ℕ)) (schedule : List ℕ) (user : Option (List ℕ)) (command : List ℕ) (meaning : Option Meaning) (told : Told)
    (found : List Warning) : Type 0 where
  pub are : found ≡ warnings_of (subject_of (fields_of_schedule schedule) meaning users user (Some command) true is_fed told)

abbrev pub WarnsJob : Bool → Option (List ℕ) → Task → Told → List Warning → Type 0
WarnsJob is_fed users task told found = IsWarned is_fed users task.schedule task.user task.command (meaning_of_timing task.times) told found

-- the warnings of a pattern of this meaning that was told so; after them what the program of a preset makes otherwise
pub record WarnsPattern (preset : Option Preset) (is_fed : Bool) (text : List ℕ) (meaning : Option Meaning) (told : Told) (found : List Warning) : Type 0 where
  pub fields : Option Texts
  pub fields_are : AreFieldsOfPattern text fields
  pub readings : List Reading
  pub readings_are : AreReadings preset false text readings
  pub are : found ≡ warnings_of (subject_of fields meaning None None None false is_fed told) ++ map warnings.Preset readings

-- ---- changes of the clock

-- what is told of changes of the clock to a job of this meaning that was told so, by what runs it: nothing where no run of it is left
pub record TellsMeetings (s : Settings) (runner : Runner) (m : Meaning) (told : Told) (met : Meetings) : Type 0 where
  pub idle : is_idle told ≡ true → met ≡ none_met
  pub left : is_idle told ≡ false → AreMeetings (start_of s) runner m met

-- the same, where it may have no meaning: then it names no time
abbrev pub TellsChanges : Settings → Runner → Option Meaning → Told → Meetings → Type 0
TellsChanges s runner None told met = met ≡ none_met
TellsChanges s runner (Some m) told met = TellsMeetings s runner m told met

-- of a job of a crontab it is what cron makes of the change, of a pattern what croner does
abbrev pub MeetsJob : Settings → Task → Told → Meetings → Type 0
MeetsJob s task told met = TellsChanges s (cron_of task.schedule) (meaning_of_timing task.times) told met

abbrev pub MeetsPattern : Settings → Option Meaning → Told → Meetings → Type 0
MeetsPattern s meaning told met = TellsChanges s runners.Croner meaning told met

-- how many blanks stand in front of a line
abbrev pub blanks_of : List ℕ → ℕ
blanks_of line = length (front kinds.Blank line)

-- ---- the report of a job

-- a job's report has these texts, its times are told so, these are its warnings, and this is told of changes of the clock.
-- Whether an earlier job is the same, it doesn't say
pub record IsJobTold (schedule : List ℕ) (user command : Option (List ℕ)) (tells : Told → Type 0) (warns : Told → List Warning → Type 0)
    (meets : Told → Meetings → Type 0) (j : JobReport) : Type 0 where
  pub schedule_is : j.schedule.now ≡ schedule
  pub user_is : option_map (λ u. u.now) j.user ≡ user
  pub command_is : option_map (λ c. c.now) j.command ≡ command
  pub tells_times : tells j.times
  pub warned : warns j.times j.warnings.items
  pub met : meets j.times j.meetings

-- the parser refuses the text that a job's times were made into with an error of this kind
abbrev pub IsUnreadTiming : Timing → CronError → Type 0
IsUnreadTiming reboot e = ⊥
IsUnreadTiming never e = ⊥
IsUnreadTiming (named text both) e = IsRefusalOf e (outcome (crontab_settings both) text)

-- why a job of a crontab is refused
abbrev pub IsJobRefused : Task → Why → Type 0
IsJobRefused task (whys.Cron fault) = ⊥
IsJobRefused task (whys.AfterOpenLine fault) = ⊥
IsJobRefused task (whys.Pattern fault taken) = ⊥
IsJobRefused task (whys.Crate e) = IsUnreadTiming task.times e
IsJobRefused task whys.NotText = ⊥
IsJobRefused task whys.NoUser = ⊥

-- a place is the whole of a text after so many blanks
abbrev pub IsWholeAfter : ℕ → List ℕ → ℕ → ℕ → Type 0
IsWholeAfter blanks text start end = (start ≡ blanks) × (end ≡ blanks + length text)

-- a place is that of a fault in a text after so many blanks
abbrev pub IsFaultAfter : ℕ → PatternFault → ℕ → ℕ → Type 0
IsFaultAfter blanks fault start end = (start ≡ blanks + fault.start) × (end ≡ blanks + fault.end)

-- the report of a job of a crontab, after so many blanks; the place of a refusal is that of its times
abbrev pub IsReportOfJob : Bool → Settings → ℕ → Task → Report → Type 0
IsReportOfJob is_fed s blanks task reports.Silent = ⊥
IsReportOfJob is_fed s blanks task (reports.Misnamed name) = ⊥
IsReportOfJob is_fed s blanks task (reports.Setting seen has_feed) = ⊥
IsReportOfJob is_fed s blanks task (reports.Job j) =
    IsJobTold task.schedule task.user (Some task.command) (TellsTiming s task.schedule task.times) (WarnsJob is_fed (users_seen s.users) task) (MeetsJob s task) j
IsReportOfJob is_fed s blanks task (reports.Refused start end why) = IsWholeAfter blanks task.schedule start end × IsJobRefused task why

-- the user of a job is refused, at its name
abbrev pub refused_user : List ℕ → Task → Report
refused_user line task = reports.Refused (user_start line task.command task.user) (user_end line task.command) whys.NoUser

-- the report of the job of a line, whose user may be none
abbrev pub IsReportBy : Bool → Bool → Settings → List ℕ → Task → Report → Type 0
IsReportBy true is_fed s line task r = r ≡ refused_user line task
IsReportBy false is_fed s line task r = IsReportOfJob is_fed s (blanks_of line) task r

-- ---- a pattern

-- why and where a pattern after so many blanks is refused: the parser refuses it, its fault is one of that refusal, and with it stands what
-- the program of a preset takes; or the whole of it is no text
abbrev pub IsPatternRefused : Settings → ℕ → List ℕ → ℕ → ℕ → Why → Type 0
IsPatternRefused s blanks text start end (whys.Cron fault) = ⊥
IsPatternRefused s blanks text start end (whys.AfterOpenLine fault) = ⊥
IsPatternRefused s blanks text start end (whys.Pattern fault taken) =
    IsFaultOf s.parser text fault × IsFaultAfter blanks fault start end × AreReadings s.preset true text taken.items
IsPatternRefused s blanks text start end (whys.Crate e) = ⊥
IsPatternRefused s blanks text start end whys.NotText = ¬ (IsUtf8 text) × IsWholeAfter blanks text start end
IsPatternRefused s blanks text start end whys.NoUser = ⊥

-- the report of a pattern after so many blanks
abbrev pub IsReportOfPattern : Bool → Settings → ℕ → List ℕ → Report → Type 0
IsReportOfPattern is_fed s blanks text reports.Silent = ⊥
IsReportOfPattern is_fed s blanks text (reports.Misnamed name) = ⊥
IsReportOfPattern is_fed s blanks text (reports.Setting seen has_feed) = ⊥
IsReportOfPattern is_fed s blanks text (reports.Job j) =
    IsJobTold text None None (TellsMeaning s runners.Croner (outcome s.parser text)) (WarnsPattern s.preset is_fed text (meaning_read (outcome s.parser text)))
    (MeetsPattern s (meaning_read (outcome s.parser text))) j
IsReportOfPattern is_fed s blanks text (reports.Refused start end why) = IsPatternRefused s blanks text start end why

-- ---- a setting

-- what is found of a line that sets a variable
abbrev pub setting_found : Bool → List ℕ → SettingReport
setting_found is_zone line = record {
  is_zone = is_zone;
  has_no_effect = has_no_effect (text_after kinds.Blank line);
  is_not_expanded = is_not_expanded (text_after kinds.Blank line);
  sends_no_mail = names_no_address (text_after kinds.Blank line);
  is_hiding = has_hidden_within (text_after kinds.Blank line);
}

-- any of these is found
abbrev pub is_setting_found : SettingReport → Bool
is_setting_found s = s.is_zone || (s.has_no_effect || (s.is_not_expanded || (s.sends_no_mail || s.is_hiding)))

-- ---- a line

-- the report of a comment, whose first name that it allows and that no warning has is this one, if there is one
abbrev pub IsReportOfComment : Option (List ℕ) → Report → Type 0
IsReportOfComment None r = r ≡ reports.Silent
IsReportOfComment (Some name) reports.Silent = ⊥
IsReportOfComment (Some name) (reports.Misnamed found) = found.now ≡ name
IsReportOfComment (Some name) (reports.Setting seen has_feed) = ⊥
IsReportOfComment (Some name) (reports.Job j) = ⊥
IsReportOfComment (Some name) (reports.Refused start end why) = ⊥

-- the report of the entry of a line, which has its line feed or hasn't
abbrev pub IsReportOfLine : Bool → Settings → List ℕ → Entry → Report → Type 0
IsReportOfLine is_fed s line entries.Blank r = r ≡ reports.Silent
IsReportOfLine is_fed s line entries.Comment r = IsReportOfComment (unknown_name_in line) r
IsReportOfLine is_fed s line (entries.Setting is_zone) r = r ≡ reports.Setting (setting_found is_zone line) is_fed
IsReportOfLine is_fed s line (entries.Job j) r = IsReportBy (is_unknown (users_seen s.users) (job_seen j).user) is_fed s line (job_seen j) r
IsReportOfLine is_fed s line (entries.Pattern text) r = IsReportOfPattern is_fed s (blanks_of line) text.now r
IsReportOfLine is_fed s line (entries.Refused fault start end) r = r ≡ reports.Refused start end (whys.Cron fault)

-- why a line is refused, after one that seems to go on
abbrev pub why_after_open_line : Why → Why
why_after_open_line (whys.Cron fault) = whys.AfterOpenLine fault
why_after_open_line (whys.AfterOpenLine fault) = whys.AfterOpenLine fault
why_after_open_line (whys.Pattern fault taken) = whys.Pattern fault taken
why_after_open_line (whys.Crate refusal) = whys.Crate refusal
why_after_open_line whys.NotText = whys.NotText
why_after_open_line whys.NoUser = whys.NoUser

-- the report of a line after one that seems to go on, or that doesn't
abbrev pub report_after_line : Bool → Report → Report
report_after_line is_open reports.Silent = reports.Silent
report_after_line is_open (reports.Misnamed name) = reports.Misnamed name
report_after_line is_open (reports.Setting seen has_feed) = reports.Setting seen has_feed
report_after_line is_open (reports.Job j) = reports.Job j
report_after_line is_open (reports.Refused start end why) = reports.Refused start end (if is_open then why_after_open_line why else why)

-- ---- the same job

-- the place of a job: the name of its file as it is shown, and the number of its line
abbrev pub file_and_line : Same → List ℕ × ℕ
file_and_line same = (string_bytes same.file, same.line)

-- the place of an earlier job that is the same, where the report has one
abbrev pub earlier_of : Report → Option (List ℕ × ℕ)
earlier_of reports.Silent = None
earlier_of (reports.Misnamed name) = None
earlier_of (reports.Setting seen has_feed) = None
earlier_of (reports.Job j) = option_map file_and_line j.same
earlier_of (reports.Refused start end why) = None

-- what a report has of the place that was found for its line: the place itself, where the report is of a job or a pattern
-- that is read, and else none
abbrev pub place_for : Report → Option (List ℕ × ℕ) → Option (List ℕ × ℕ)
place_for reports.Silent found = None
place_for (reports.Misnamed name) found = None
place_for (reports.Setting seen has_feed) found = None
place_for (reports.Job j) found = found
place_for (reports.Refused start end why) found = None

-- it has none, whatever was found
abbrev pub HasNoPlace : Report → Type 0
HasNoPlace r = (found : Option (List ℕ × ℕ)) → earlier_of r ≡ place_for r found

-- ---- patterns that another program refuses

-- the program of a preset refuses the pattern, and that isn't allowed
abbrev pub is_refused_elsewhere : JobReport → Bool
is_refused_elsewhere j = list_any is_refusal_elsewhere j.warnings.items

-- ---- lines with a warning

-- a job or a pattern has a warning, or is the same as an earlier one, or a name is allowed in vain
abbrev pub has_job_warnings : JobReport → Bool
has_job_warnings j =
    ((not (length j.warnings.items == 0) || are_warned j.meetings) || is_some j.same) || not (length j.unneeded.items == 0)

-- a line has a warning. Those of a setting are what is found of it, and that it has no line feed; that of a comment is a name that no warning has
abbrev pub has_warnings : Report → Bool
has_warnings reports.Silent = false
has_warnings (reports.Misnamed name) = true
has_warnings (reports.Setting seen has_feed) = is_setting_found seen || not has_feed
has_warnings (reports.Job j) = has_job_warnings j
has_warnings (reports.Refused start end why) = false

-- ---- notes

-- the notes of a job's line: a pattern, which has no command, has none
abbrev pub notes_of_job : Option (List ℕ) → List ℕ → List Note
notes_of_job None line = []
notes_of_job (Some command) line = notes_of None line

-- the notes of a line that is refused: where cron refuses it
abbrev pub notes_of_refusal : Why → List ℕ → List Note
notes_of_refusal (whys.Cron fault) line = notes_of (Some fault) line
notes_of_refusal (whys.AfterOpenLine fault) line = notes_of (Some fault) line
notes_of_refusal (whys.Pattern fault taken) line = []
notes_of_refusal (whys.Crate e) line = []
notes_of_refusal whys.NotText line = []
notes_of_refusal whys.NoUser line = []

-- what the program of a preset takes of a pattern that is refused
abbrev pub taken_of : Why → List Reading
taken_of (whys.Cron fault) = []
taken_of (whys.AfterOpenLine fault) = []
taken_of (whys.Pattern fault taken) = taken.items
taken_of (whys.Crate e) = []
taken_of whys.NotText = []
taken_of whys.NoUser = []

-- the notes of a line with a report
abbrev pub notes_of_report : List ℕ → Report → List Note
notes_of_report line reports.Silent = []
notes_of_report line (reports.Misnamed name) = []
notes_of_report line (reports.Setting seen is_fed) = []
notes_of_report line (reports.Job j) = notes_of_job (option_map (λ c. c.now) j.command) line
notes_of_report line (reports.Refused start end why) = notes_of_refusal why line
