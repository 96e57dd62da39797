-- What is allowed of a line: the names of warnings that a comment above it lists, or the words of the call. Source: docs/CRONTAB.md ("What is
-- allowed").
use Rattle.std.specs.Prelude.{◌≡◌, ℕ, ◌&&◌, ◌||◌, ◌==◌, Bool, not, List, [], ◌∷◌, length, map, filter, codes, Option, Some, None, option_map, is_some, unwrap_or, if◌then◌else◌}
use Rattle.std.specs.Borrow.{Bor}
use Rattle.std.specs.List.{list_any, slice_split}
use Rattle.std.specs.Str.{bytes_eq}
use Rattle.crontab.specs.declared.bytes.Kind.TheVariants as kinds
use Rattle.crontab.specs.Bytes.{is_space, front, text_after, rest_of}
use Rattle.crontab.specs.Line.{Line, blank, comment, setting, job, pattern, refused, next}
use Rattle.croncheck_changes.specs.declared.changes.meetings.Met.{Met}
use Rattle.croncheck_changes.specs.declared.changes.meetings.Meetings.{Meetings}
use Rattle.croncheck_report.specs.declared.report.JobReport.{JobReport}
use Rattle.croncheck_report.specs.declared.report.Report.{Report}
use Rattle.croncheck_report.specs.declared.report.Report.TheVariants as reports
use Rattle.croncheck_report.specs.declared.report.SettingReport.{SettingReport}
use Rattle.croncheck_report.specs.declared.settings.Settings.{Settings}
use Rattle.croncheck_warnings.specs.declared.warnings.OtherWarning.TheVariants as others
use Rattle.croncheck_warnings.specs.declared.warnings.Warning.{Warning}
use Rattle.croncheck_changes.specs.Changes.{is_warned, name_of}
use Rattle.croncheck_warnings.specs.Warnings.{warning_name, other_name}

-- ---- names

-- the names of the warnings that may be allowed. That a crontab's last line has no line feed, or that it has too many lines, is no warning
-- alone: cron ignores the file
abbrev pub allowable : List (List ℕ)
allowable =
    codes "either-day" ∷ codes "uneven-step" ∷ codes "step-beyond" ∷ codes "range-down" ∷ codes "passed-over" ∷ codes "large-number"
    ∷ codes "whole-hour" ∷ codes "short-months" ∷ codes "gone" ∷ codes "never" ∷ codes "no-command" ∷ codes "looks-like-field" ∷ codes "user"
    ∷ codes "percent" ∷ codes "continued" ∷ codes "control-byte" ∷ codes "carriage-return" ∷ codes "empty-item" ∷ codes "other-name"
    ∷ codes "preset"
    ∷ codes "no-zone" ∷ codes "no-effect" ∷ codes "not-expanded" ∷ codes "no-mail" ∷ codes "gap" ∷ codes "twice" ∷ codes "same-job" ∷ []

-- a name is among these
abbrev pub is_listed : List (List ℕ) → List ℕ → Bool
is_listed names name = list_any (λ n. bytes_eq n name) names

-- names as contracts see them
abbrev pub names_seen : List (Bor (List ℕ)) → List (List ℕ)
names_seen names = map (λ n. n.now) names

-- ---- comments

-- the list of a comment that allows something: what stands after `# croncheck: allow`
abbrev pub list_in : List ℕ → Option (List ℕ)
list_in line =
    let text = text_after kinds.Blank (rest_of (text_after kinds.Blank line)) in
    if bytes_eq (front kinds.Word text) (codes "croncheck:") && bytes_eq (front kinds.Word (next text)) (codes "allow") then Some (next (next text)) else None

-- what stands between the names of a list: a space or a comma
abbrev pub is_between : ℕ → Bool
is_between b = is_space b || b == 44

abbrev pub items_of : List ℕ → List (List ℕ)
items_of list = slice_split (λ b. is_between b) list

-- a list has a name
abbrev pub lists : List ℕ → List ℕ → Bool
lists list name = list_any (λ item. bytes_eq name item) (items_of list)

-- the names that a list allows
abbrev pub names_in : List ℕ → List (List ℕ)
names_in list = filter (lists list) allowable

-- a piece of a list is no name of a warning that may be allowed
abbrev pub is_unknown : List ℕ → Bool
is_unknown item = not (length item == 0) && not (is_listed allowable item)

-- the first of some texts that passes a test
abbrev pub first_so : (List ℕ → Bool) → List (List ℕ) → Option (List ℕ)
first_so test [] = None
first_so test (t ∷ ts) = if test t then Some t else first_so test ts

abbrev pub unknown_in_list : Option (List ℕ) → Option (List ℕ)
unknown_in_list None = None
unknown_in_list (Some list) = first_so is_unknown (items_of list)

-- the first name of a comment's list that no warning has
abbrev pub unknown_name_in : List ℕ → Option (List ℕ)
unknown_name_in line = unknown_in_list (list_in line)

-- the names that a line allows to those after it: those of a comment that allows something; none, where it is neither a comment nor blank; and
-- else it says nothing
abbrev pub names_by : Line → List ℕ → Option (List (List ℕ))
names_by blank line = None
names_by comment line = option_map names_in (list_in line)
names_by (setting is_zone) line = Some []
names_by (job task) line = Some []
names_by (pattern text) line = Some []
names_by (refused fault) line = Some []

-- what is allowed after a line, of which this was in front: the last that was said
abbrev pub allowed_after : Line → List ℕ → List (List ℕ) → List (List ℕ)
allowed_after is line before = unwrap_or (names_by is line) before

-- ---- what is taken away

-- the words of the call or the comment above a line allow a name
abbrev pub is_allowed : Settings → List (List ℕ) → List ℕ → Bool
is_allowed s above name = is_listed (names_seen s.allowed.now) name || is_listed above name

-- a warning of a change of the clock is allowed
abbrev pub is_met_allowed : Settings → List (List ℕ) → Met → Bool
is_met_allowed s above c = is_warned c && is_allowed s above (name_of c.meeting.range c.meeting.fate)

abbrev pub met_left : Settings → List (List ℕ) → Option Met → Option Met
met_left s above None = None
met_left s above (Some c) = if is_met_allowed s above c then None else Some c

-- what is left of the changes that meet a job: those whose warning isn't allowed, and those without one
abbrev pub meetings_left : Settings → List (List ℕ) → Meetings → Meetings
meetings_left s above met = record { gap = met_left s above met.gap; repeated = met_left s above met.repeated }

abbrev pub warnings_left : Settings → List (List ℕ) → List Warning → List Warning
warnings_left s above warnings = filter (λ w. not (is_allowed s above (warning_name w))) warnings

-- what is left of what is found of a setting
abbrev pub setting_left : Settings → List (List ℕ) → SettingReport → SettingReport
setting_left s above seen = record {
  is_zone = seen.is_zone && not (is_allowed s above (other_name others.NoZone));
  has_no_effect = seen.has_no_effect && not (is_allowed s above (other_name others.NoEffect));
  is_not_expanded = seen.is_not_expanded && not (is_allowed s above (other_name others.NotExpanded));
  sends_no_mail = seen.sends_no_mail && not (is_allowed s above (other_name others.NoMail));
  is_hiding = seen.is_hiding && not (is_allowed s above (other_name others.ControlByte));
}

-- ---- what is allowed in vain

-- whether a warning of this name stands at a job hangs on the zone or on the date
abbrev pub hangs_on_clock : List ℕ → Bool
hangs_on_clock name = bytes_eq name (codes "gap") || (bytes_eq name (codes "twice") || (bytes_eq name (codes "never") || bytes_eq name (codes "gone")))

-- an earlier job is the same, or jobs aren't compared
abbrev pub may_be_same : Settings → JobReport → Bool
may_be_same s j = is_some j.same || not s.compares_jobs

-- a warning of this name stands at a job, or may stand there: in another call, or at another time
abbrev pub may_stand : Settings → JobReport → List ℕ → Bool
may_stand s j name =
    list_any (λ w. bytes_eq (warning_name w) name) j.warnings.items
    || ((bytes_eq name (codes "same-job") && may_be_same s j) || ((bytes_eq name (codes "preset") && not (is_some s.preset)) || hangs_on_clock name))

-- `not-needed`: the names that the comment above a job allows and that don't stand there, where the call is strict
abbrev pub names_not_needed : Settings → List (List ℕ) → JobReport → List (List ℕ)
names_not_needed s above j = if s.is_strict then filter (λ name. not (may_stand s j name)) above else []

-- ---- the report

-- what is left of the report of a job: all but its warnings, those of changes of the clock and the earlier job stays
pub record IsJobLeft (s : Settings) (above : List (List ℕ)) (old new : JobReport) : Type 0 where
  pub schedule : new.schedule ≡ old.schedule
  pub user : new.user ≡ old.user
  pub command : new.command ≡ old.command
  pub times : new.times ≡ old.times
  pub same : new.same ≡ (if is_allowed s above (codes "same-job") then None else old.same)
  pub meetings : new.meetings ≡ meetings_left s above old.meetings
  pub warnings : new.warnings.items ≡ warnings_left s above old.warnings.items
  pub unneeded : names_seen new.unneeded.items ≡ names_not_needed s above old

abbrev pub IsJobOf : (JobReport → Type 0) → Report → Type 0
IsJobOf holds reports.Silent = ⊥
IsJobOf holds (reports.Misnamed name) = ⊥
IsJobOf holds (reports.Setting seen is_fed) = ⊥
IsJobOf holds (reports.Job j) = holds j
IsJobOf holds (reports.Refused start end why) = ⊥

-- what is left of a report
abbrev pub IsLeft : Settings → List (List ℕ) → Report → Report → Type 0
IsLeft s above reports.Silent new = new ≡ reports.Silent
IsLeft s above (reports.Misnamed name) new = new ≡ reports.Misnamed name
IsLeft s above (reports.Setting seen is_fed) new = new ≡ reports.Setting (setting_left s above seen) is_fed
IsLeft s above (reports.Job j) new = IsJobOf (IsJobLeft s above j) new
IsLeft s above (reports.Refused start end why) new = new ≡ reports.Refused start end why
