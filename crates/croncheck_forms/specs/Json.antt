-- Reports as JSON: one object a line of input. The members of an object stand in the order of their names. Source: this crate's documentation
-- ("JSON").
use Rattle.std.specs.Prelude.{◌≡◌, ℕ, ℤ, Bool, false, List, [], ◌∷◌, ◌++◌, map, codes, Option, Some, None, option_map, string_bytes, if◌then◌else◌}
use Rattle.std.specs.Io.KnownBytes.{Appends}
use Rattle.serde_json.specs.Data.{Data, Members, null, number, unsigned, string, array, object, member, no_members}
use Rattle.serde_json.specs.Find.{of_integer}
use Rattle.serde_json.specs.View.{items_of}
use Rattle.serde_json.specs.Written.{compact_text}
use Rattle.jiff_tz.specs.declared.timezone.TimeZone.{TimeZone}
use Rattle.crontab.specs.Checked.{LineRead}
use Rattle.crontab.specs.Line.{Line, blank, comment, setting, job, pattern, refused}
use Rattle.croncheck_changes.specs.declared.changes.Fate.{Fate}
use Rattle.croncheck_changes.specs.declared.changes.Fate.TheVariants as fates
use Rattle.croncheck_changes.specs.declared.changes.meetings.Meetings.{Meetings}
use Rattle.croncheck_changes.specs.declared.changes.meetings.Met.{Met}
use Rattle.croncheck_findings.specs.declared.findings.Finding.{Finding}
use Rattle.croncheck_often.specs.declared.often.Often.{Often}
use Rattle.croncheck_often.specs.declared.often.Reach.{Reach}
use Rattle.croncheck_often.specs.declared.often.Reach.TheVariants as reaches
use Rattle.croncheck_report.specs.declared.report.JobReport.{JobReport}
use Rattle.croncheck_report.specs.declared.report.Report.{Report}
use Rattle.croncheck_report.specs.declared.report.Report.TheVariants as reports
use Rattle.croncheck_report.specs.declared.settings.Settings.{Settings}
use Rattle.croncheck_report.specs.declared.told.Told.{Told}
use Rattle.croncheck_report.specs.declared.told.Told.TheVariants as tolds
use Rattle.croncheck_runs.specs.declared.runs.End.{End}
use Rattle.croncheck_runs.specs.declared.runs.End.TheVariants as ends
use Rattle.croncheck_runs.specs.declared.runs.Run.{Run}
use Rattle.croncheck_runs.specs.declared.runs.Runs.{Runs}
use Rattle.croncheck_output.specs.Severity.{severity_name}
use Rattle.croncheck_findings.specs.Findings.{findings_seen, findings_said, findings_of_line, findings_of_file, last_line}
use Rattle.croncheck_output.specs.Output.{Written}
use Rattle.croncheck_reading.specs.Tally.{one_more}
use Rattle.croncheck_reading.specs.Progress.{Reports}
use Rattle.croncheck_output.specs.Escaped.{exact_text}
use Rattle.croncheck_output.specs.User.{user_shown}
use Rattle.croncheck_report.specs.Offsets.{offset_of}
use Rattle.croncheck_reading.specs.Stand.{Stand}

-- ---- kinds

-- the word for what a line is
abbrev pub kind_of_line : Line → List ℕ
kind_of_line blank = codes "blank"
kind_of_line comment = codes "comment"
kind_of_line (setting is_zone) = codes "setting"
kind_of_line (job task) = codes "job"
kind_of_line (pattern text) = codes "pattern"
kind_of_line (refused fault) = codes "refused"

-- the kind of a line with a report
abbrev pub kind_of : List ℕ → Report → List ℕ
kind_of kind reports.Silent = kind
kind_of kind (reports.Misnamed name) = kind
kind_of kind (reports.Setting seen has_feed) = kind
kind_of kind (reports.Job j) = kind
kind_of kind (reports.Refused start end why) = codes "refused"

-- how a list of runs ends
abbrev pub end_name : Bool → End → List ℕ
end_name is_past ends.More = codes "more"
end_name is_past ends.Over = if is_past then codes "past" else codes "over"
end_name is_past ends.Cut = codes "cut"
end_name is_past ends.Window = codes "cut"
end_name is_past (ends.Failed e) = codes "failed"

-- ---- objects

-- a number that may be negative
abbrev pub integer : ℤ → Data
integer z = number (of_integer z)

-- a text, or null where there is none
abbrev pub string_or_null : Option (List ℕ) → Data
string_or_null None = null
string_or_null (Some text) = string text

-- the user of a line, where the word there may be the name of one; else null
abbrev pub user_or_null : Option (List ℕ) → Data
user_or_null user = string_or_null (option_map (λ name. exact_text name) (user_shown user))

-- a finding: how grave it is, its name and field, its place, and what it says
abbrev pub finding_object : Finding → Data
finding_object f = object
    (member (codes "end") (number (unsigned f.extent.end))
    (member (codes "field") (string_or_null (option_map (λ field. field.now) f.field))
    (member (codes "name") (string f.name.now)
    (member (codes "severity") (string (severity_name f.severity))
    (member (codes "start") (number (unsigned f.extent.start))
    (member (codes "text") (string (string_bytes f.text)) no_members))))))

-- a number that may be negative, or null where there is none
abbrev pub integer_or_null : Option ℤ → Data
integer_or_null None = null
integer_or_null (Some z) = integer z

-- a run: the wall second of the first minute that it makes up for, how far the zone's clock is ahead of UTC then, its second, and how many
-- times the job is started
abbrev pub run_object : TimeZone → Run → Data
run_object zone run = object
    (member (codes "makes_up_for") (integer_or_null run.made_up)
    (member (codes "offset") (integer (offset_of zone run.time.second))
    (member (codes "second") (integer run.time.second)
    (member (codes "starts") (number (unsigned run.count)) no_members))))

-- the runs before the start, and how their list ends
abbrev pub previous_object : TimeZone → Runs → Data
previous_object zone runs = object
    (member (codes "end") (string (end_name false runs.end))
    (member (codes "runs") (array (items_of (map (run_object zone) runs.items.items))) no_members))

-- how far starts are counted
abbrev pub reach_name : Reach → List ℕ
reach_name reaches.Whole = codes "whole"
reach_name reaches.Cut = codes "cut"
reach_name reaches.Window = codes "cut"
reach_name reaches.Failed = codes "failed"

-- a count, or null where there is none
abbrev pub count_or_null : Option ℕ → Data
count_or_null None = null
count_or_null (Some n) = number (unsigned n)

-- how often a job starts: how far is counted, from where on, the most on one date, the shortest distance, all, and the last second counted
abbrev pub often_object : Often → Data
often_object o = object
    (member (codes "end") (string (reach_name o.reach))
    (member (codes "from") (integer o.from)
    (member (codes "most_a_day") (number (unsigned o.most_a_day))
    (member (codes "shortest") (count_or_null o.shortest)
    (member (codes "starts") (number (unsigned o.starts))
    (member (codes "until") (integer o.until) no_members))))))

-- a member, where there is one
abbrev pub member_if : List ℕ → Option Data → Members → Members
member_if key None members = members
member_if key (Some d) members = member key d members

-- when a job runs whose times have a meaning: with how often it starts, and with the runs before the start, where these are asked for
abbrev pub named_object : TimeZone → List ℕ → Runs → Bool → Option Runs → Option Often → Data
named_object zone text runs is_past previous often = object
    (member (codes "description") (string text)
    (member (codes "end") (string (end_name is_past runs.end))
    (member_if (codes "often") (option_map often_object often)
    (member_if (codes "previous") (option_map (previous_object zone) previous)
    (member (codes "runs") (array (items_of (map (run_object zone) runs.items.items)))
    (member (codes "when") (string (codes "named")) no_members))))))

-- when a job runs
abbrev pub times_object : TimeZone → Told → Data
times_object zone tolds.Reboot = object (member (codes "when") (string (codes "reboot")) no_members)
times_object zone tolds.Nothing = object (member (codes "when") (string (codes "nothing")) no_members)
times_object zone (tolds.Runs text runs previous often is_past) = named_object zone (string_bytes text) runs is_past previous often

-- the word for what becomes of a second that a change of the clock skips, or shows twice
abbrev pub fate_name : Fate → List ℕ
fate_name fates.LeftOut = codes "left-out"
fate_name fates.Moved = codes "moved"
fate_name fates.Once = codes "once"
fate_name fates.Twice = codes "twice"
fate_name fates.Paused = codes "paused"

-- a change of the clock that meets a job: its second; the wall second that the clock would have shown there, and the one that it shows; the
-- first that the job is due at in between, and what becomes of it
abbrev pub change_object : Met → Data
change_object c = object
    (member (codes "after") (integer c.meeting.change.after)
    (member (codes "before") (integer c.meeting.change.before)
    (member (codes "due") (integer c.meeting.second)
    (member (codes "fate") (string (fate_name c.meeting.fate))
    (member (codes "second") (integer c.meeting.change.instant) no_members)))))

-- the same, where one does
abbrev pub change_objects : Option Met → List Data
change_objects None = []
change_objects (Some c) = change_object c ∷ []

-- the first that skips one of its seconds, and the first that shows one twice
abbrev pub objects_of_changes : Meetings → List Data
objects_of_changes met = change_objects met.gap ++ change_objects met.repeated

-- a job: the changes of the clock that meet it, its times as they are written, its user and its command as they are shown, each backslash as
-- two, and when it runs
abbrev pub job_object : TimeZone → JobReport → Data
job_object zone j = object
    (member (codes "changes") (array (items_of (objects_of_changes j.meetings)))
    (member (codes "command") (string_or_null (option_map (λ c. exact_text c.now) j.command))
    (member (codes "schedule") (string (exact_text j.schedule.now))
    (member (codes "times") (times_object zone j.times)
    (member (codes "user") (user_or_null (option_map (λ u. u.now) j.user)) no_members)))))

-- the job of a report, or null
abbrev pub job_data : TimeZone → Report → Data
job_data zone reports.Silent = null
job_data zone (reports.Misnamed name) = null
job_data zone (reports.Setting seen is_fed) = null
job_data zone (reports.Job j) = job_object zone j
job_data zone (reports.Refused start end why) = null

-- what an object says of a line beside its report: the zone whose clock is shown, what the line is, the name of its file as it is shown, and
-- its number there, from 1
pub record Origin : Type 0 where
  pub zone : TimeZone
  pub kind : List ℕ
  pub file : List ℕ
  pub line : ℕ

-- the object of a line with a report, of which this is found
abbrev pub object_of : Origin → Report → List Finding → Data
object_of o report found = object
    (member (codes "file") (string o.file)
    (member (codes "findings") (array (items_of (map finding_object found)))
    (member (codes "job") (job_data o.zone report)
    (member (codes "kind") (string (kind_of o.kind report))
    (member (codes "line") (number (unsigned o.line))
    (member (codes "version") (number (unsigned 2)) no_members))))))

-- ---- what is written

-- the object of a report was written, of which this is found, and a line feed
pub record WritesObject (o : Origin) (report : Report) (found : List Finding) (old new : Option (List ℕ)) : Type 0 where
  pub appends : Appends old new (compact_text (object_of o report found) ++ 10 ∷ [])

-- the origin of the next line, where this zone's clock is shown
abbrev pub next_origin : TimeZone → Stand → LineRead → Origin
next_origin zone old y = record { zone = zone; kind = kind_of_line y.is; file = old.file.name; line = one_more old.lines }

-- what a line leaves: the object of its report was written, with all that is found of it
pub record Writes (s : Settings) (zone : TimeZone) (old : Stand) (before : Written) (y : LineRead) (new : Stand) (after : Written) : Type 0 where
  pub report : Report
  pub reported : Reports s old y report new
  pub found : List Finding
  pub found_are : findings_seen found ≡ findings_of_line y.bytes report
  pub written : WritesObject (next_origin zone old y) report found before.contents after.contents

-- the same, where nothing is written of a line of which nothing is found
abbrev pub WritesIfFound : Origin → Report → List Finding → Written → Written → Type 0
WritesIfFound o report [] old new = new ≡ old
WritesIfFound o report (f ∷ fs) old new = WritesObject o report (f ∷ fs) old.contents new.contents

-- what a line leaves that is checked: its report was counted, and its object written where something is found of it
pub record WritesFound (s : Settings) (zone : TimeZone) (old : Stand) (before : Written) (y : LineRead) (new : Stand) (after : Written) : Type 0 where
  pub report : Report
  pub reported : Reports s old y report new
  pub found : List Finding
  pub found_are : findings_seen found ≡ findings_of_line y.bytes report
  pub written : WritesIfFound (next_origin zone old y) report found before after

-- the origin of the object of a file as a whole
abbrev pub file_origin : TimeZone → Stand → Origin
file_origin zone stand = record { zone = zone; kind = codes "file"; file = stand.file.name; line = last_line stand.lines }

-- the object of a file as a whole was written, with all that is found of it
pub record WritesFile (s : Settings) (zone : TimeZone) (stand : Stand) (old new : Written) : Type 0 where
  pub found : List Finding
  pub found_are : findings_said found ≡ findings_of_file s.dialect stand.lines stand.file
  pub written : WritesObject (file_origin zone stand) reports.Silent found old.contents new.contents
