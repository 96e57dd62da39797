-- What a planner takes of files, and what it writes. Source: docs/CRONTAB.md ("A plan"), and this crate's documentation of `Planner`.
use Rattle.std.specs.Prelude.{◌≡◌, ◌==◌, ℕ, Bool, true, false, List, [], ◌∷◌, ◌++◌, codes, map, Option, Some, None, option_map, string_bytes, unwrap_or, if◌then◌else◌}
use Rattle.std.specs.declared.alloc.Global.{Global}
use Rattle.std.specs.declared.vec.Vec.{Vec}
use Rattle.std.specs.List.{list_any}
use Rattle.std.specs.Str.{bytes_eq}
use Rattle.croner_base.specs.TableZone.{table_zone}
use Rattle.croner.specs.declared.job.Cron.{Cron}
use Rattle.croner.specs.Views.{job_of}
use Rattle.crontab.specs.declared.content.Outcome.{Outcome}
use Rattle.crontab.specs.declared.line.Dialect.{Dialect}
use Rattle.crontab.specs.declared.line.Entry.{Entry}
use Rattle.crontab.specs.Checked.{LineRead, IsEntryOf}
use Rattle.crontab.specs.Content.{IsOutcome}
use Rattle.crontab.specs.Entries.{entry_seen}
use Rattle.crontab.specs.Line.{Line, blank, comment, setting, job, pattern, refused}
use Rattle.cronplan_jobs.specs.declared.listing.Schedule.{Schedule}
use Rattle.cronplan_jobs.specs.declared.listing.Schedule.TheVariants as schedules
use Rattle.croncheck_planner.specs.declared.plan.Found.{Found}
use Rattle.cronplan_forms.specs.declared.asked.FileAsked.{FileAsked}
use Rattle.cronplan_forms.specs.declared.asked.PlanAsked.{PlanAsked}
use Rattle.croncheck_planner.specs.declared.planner.Named.{Named}
use Rattle.croncheck_planner.specs.declared.planner.Planned.{Planned}
use Rattle.croncheck_planner.specs.declared.planner.Planner.{Planner}
use Rattle.croncheck_report.specs.declared.report.Report.{Report}
use Rattle.croncheck_report.specs.declared.settings.Settings.{Settings}
use Rattle.croncheck_report.specs.declared.shared.Shared.{Shared}
use Rattle.croncheck_reading.specs.declared.tally.Tally.{Tally}
use Rattle.croncheck_report.specs.FileSeen.{ending_of, is_ignored, with_report}
use Rattle.croncheck_output.specs.Output.{Written, WritesApart}
use Rattle.cronplan_forms.specs.Questions.{asks_none}
use Rattle.croncheck_planner.specs.Ignored.{WritesIgnored}
use Rattle.croncheck_planner.specs.Plan.{job_found, answered_until, IsFound, IsListed}
use Rattle.croncheck_planner.specs.PlanAnswers.{WritesAnswers}
use Rattle.croncheck_planner.specs.PlanList.{labels, whose_text, WritesList}
use Rattle.croncheck_report.specs.Report.{IsReportOfLine}
use Rattle.croncheck_shown.specs.Reported.{WritesReport}
use Rattle.croncheck_report.specs.Settings.{start_of, window_end}
use Rattle.croncheck_output.specs.Front.{front_text}
use Rattle.croncheck_shown.specs.Shown.{place_text}
use Rattle.croncheck_output.specs.Builds.{begins_command}
use Rattle.croncheck_output.specs.Escaped.{bytes_shown, spaced}
use Rattle.croncheck_output.specs.User.{user_shown}
use Rattle.croncheck_reading.specs.Sink.{State}
use Rattle.croncheck_reading.specs.Stand.{Stand, at_line}
use Rattle.croncheck_warnings.specs.Starred.{is_starred}
use Rattle.croncheck_reading.specs.Tally.{counted, one_more}
use Rattle.croncheck_planner.specs.Titles.{HeadingSeen, heading, heading_seen, no_heading, title_beside, title_of}
use Rattle.croncheck_report.specs.Told.{IsDescription}
use Rattle.croncheck_warnings.specs.Users.{users_seen, is_unknown}

-- ---- what is shown of a job

-- a title as it is shown: in quotes where it would be taken for a command at the beginning of a line
abbrev pub title_shown : List ℕ → List ℕ
title_shown title = if begins_command title then codes "'" ++ (spaced title ++ codes "'") else spaced title

-- so many bytes of a title, of a command or a pattern stand in a list at most
abbrev pub command_bytes : ℕ
command_bytes = 40

-- the user that a line names, if that word may be the name of one; its times as they are written, and its command: of a pattern both are the
-- pattern
abbrev pub user_text : Line → List ℕ
user_text blank = []
user_text comment = []
user_text (setting is_zone) = []
user_text (job task) = unwrap_or (user_shown task.user) []
user_text (pattern text) = []
user_text (refused fault) = []

abbrev pub times_of : Line → List ℕ
times_of blank = []
times_of comment = []
times_of (setting is_zone) = []
times_of (job task) = task.schedule
times_of (pattern text) = text
times_of (refused fault) = []

abbrev pub command_of : Line → List ℕ
command_of blank = []
command_of comment = []
command_of (setting is_zone) = []
command_of (job task) = task.command
command_of (pattern text) = text
command_of (refused fault) = []

-- the front of a command, after two spaces, if there is one
abbrev pub command_front : List ℕ → List ℕ
command_front [] = []
command_front (b ∷ bs) = codes "  " ++ front_text command_bytes (b ∷ bs)

-- the same, but where the command is the title: of a pattern it mostly is
abbrev pub command_after : List ℕ → List ℕ → List ℕ
command_after title command = if bytes_eq command title then [] else command_front command

-- what a list shows of a job: its file, its number there, the front of its title, and of its command where that is asked for
abbrev pub label_text : PlanAsked → List ℕ → ℕ → List ℕ → Line → List ℕ
label_text asked file line title is =
    codes "  " ++ (place_text file line ++ (front_text command_bytes title ++ (if asked.has_commands then command_after title (command_of is) else [])))

-- a title, and what a list shows of a job with it
pub record NameShown : Type 0 where
  pub title : List ℕ
  pub label : List ℕ

abbrev pub name_seen : Named → NameShown
name_seen n = record { title = string_bytes n.title; label = string_bytes n.label }

-- what is shown of a job, with the number of its file among those that are read, from 1; and how it is named instead beside other jobs of its
-- file, where that is different
pub record JobShown : Type 0 where
  pub number : ℕ
  pub line : ℕ
  pub file : List ℕ
  pub title : List ℕ
  pub user : List ℕ
  pub times : List ℕ
  pub words : List ℕ
  pub command : List ℕ
  pub label : List ℕ
  pub beside : Option NameShown

abbrev pub planned_seen : Planned → JobShown
planned_seen p = record {
  number = p.number;
  line = p.line;
  file = string_bytes p.file;
  title = string_bytes p.title;
  user = string_bytes p.user;
  times = string_bytes p.times;
  words = string_bytes p.words;
  command = p.command.items;
  label = string_bytes p.label;
  beside = option_map name_seen p.beside;
}

-- how a job is named with a title
abbrev pub name_with : PlanAsked → List ℕ → ℕ → Line → List ℕ → NameShown
name_with asked file line is title = record { title = title_shown title; label = label_text asked file line title is }

-- the same of the job of a line at a place, in the file with a number, above which this stands, whose times mean this in words
abbrev pub job_shown : PlanAsked → ℕ → List ℕ → ℕ → List ℕ → List ℕ → Line → JobShown
job_shown asked number file line above words is = record {
  number = number;
  line = line;
  file = file;
  title = title_shown (title_of file above is);
  user = bytes_shown (user_text is);
  times = bytes_shown (times_of is);
  words = words;
  command = command_of is;
  label = label_text asked file line (title_of file above is) is;
  beside = option_map (name_with asked file line is) (title_beside file above is);
}

-- as it is named beside other jobs of its file
abbrev pub named_by : Option NameShown → JobShown → JobShown
named_by None j = j
named_by (Some n) j = record j { title = n.title; label = n.label; beside = None }

abbrev pub beside_shown : JobShown → JobShown
beside_shown j = named_by j.beside j

-- a job behind the last one: both are named as beside others where they are of one file
abbrev pub pair_shown : JobShown → JobShown → List JobShown
pair_shown last j = if last.number == j.number then beside_shown last ∷ beside_shown j ∷ [] else last ∷ j ∷ []

-- one more job behind some, of which only the last may be named otherwise
abbrev pub with_shown : List JobShown → JobShown → List JobShown
with_shown [] j = j ∷ []
with_shown (first ∷ []) j = pair_shown first j
with_shown (first ∷ (second ∷ others)) j = first ∷ with_shown (second ∷ others) j

-- ---- the jobs

-- the jobs of a planner in order, and what is shown of each
pub record Jobs : Type 0 where
  pub jobs : List Schedule
  pub shown : List JobShown

abbrev pub jobs_seen : Vec Schedule Global → Vec Planned Global → Jobs
jobs_seen jobs shown = record { jobs = jobs.items; shown = map planned_seen shown.items }

-- what a planner knows: these, what was read so far, and what was written
pub record Seen : Type 0 where
  pub jobs : List Schedule
  pub shown : List JobShown
  pub stand : Stand
  pub written : Written

-- what contracts see of a planner
abbrev pub seen : Vec Schedule Global → Vec Planned Global → Stand → Written → Seen
seen jobs shown stand written = record {
  jobs = jobs.items;
  shown = map planned_seen shown.items;
  stand = stand;
  written = written;
}

-- with one more line, which has a job
abbrev pub with_job : Tally → Tally
with_job t = record t { lines = one_more t.lines; jobs = one_more t.jobs }

-- the job of a line, of whose times the parser makes this: a crontab's, which cron starts, or a pattern
abbrev pub schedule_of : Line → Cron → Schedule
schedule_of blank cron = schedules.Pattern cron
schedule_of comment cron = schedules.Pattern cron
schedule_of (setting is_zone) cron = schedules.Pattern cron
schedule_of (job task) cron = schedules.Crontab (record { cron = cron; is_starred = is_starred task.schedule })
schedule_of (pattern text) cron = schedules.Pattern cron
schedule_of (refused fault) cron = schedules.Pattern cron

-- one more job, with what is shown of it at a place, in the file with a number
pub record Keeps (s : Settings) (asked : PlanAsked) (above : List ℕ) (number : ℕ) (file : List ℕ) (line : ℕ) (is : Line) (cron : Cron) (old new : Jobs) : Type 0 where
  pub words : List ℕ
  pub described : IsDescription s.language (job_of cron) words
  pub jobs : new.jobs ≡ old.jobs ++ schedule_of is cron ∷ []
  pub shown : new.shown ≡ with_shown old.shown (job_shown asked number file line above words is)

-- the same of the line that was read last, and nothing was written
pub record Adds (s : Settings) (asked : PlanAsked) (above : List ℕ) (is : Line) (cron : Cron) (old new : Seen) : Type 0 where
  pub kept : Keeps s asked above old.stand.files old.stand.file.name old.stand.lines is cron (record { jobs = old.jobs; shown = old.shown }) (record { jobs = new.jobs; shown = new.shown })
  pub stand : new.stand ≡ record old.stand { tally = with_job old.stand.tally }
  pub written : new.written ≡ old.written

-- a line without a place in the plan is told as in a report, and where a file is asked for, with no more of the line than the bytes at fault
abbrev pub WritesPassed : Option FileAsked → Settings → List ℕ → ℕ → List ℕ → Report → Written → Written → Type 0
WritesPassed None s file line text report old new = WritesReport s.look file line text report old new
WritesPassed (Some asked) s file line text report old new = WritesIgnored file line text report old new

-- so is a line that has its line feed; warnings are not counted
pub record Passes (s : Settings) (asked : PlanAsked) (text : List ℕ) (entry : Entry) (old new : Seen) : Type 0 where
  pub report : Report
  pub reported : IsReportOfLine true s text entry report
  pub jobs : new.jobs ≡ old.jobs
  pub shown : new.shown ≡ old.shown
  pub stand : new.stand ≡ record old.stand { tally = counted old.stand.tally report; file = with_report report old.stand.file }
  pub written : WritesPassed asked.file s old.stand.file.name old.stand.lines text report old.written new.written

-- the user of a line is none of those that are known
abbrev pub is_refused_by_user : Settings → Line → Bool
is_refused_by_user s blank = false
is_refused_by_user s comment = false
is_refused_by_user s (setting is_zone) = false
is_refused_by_user s (job task) = is_unknown (users_seen s.users) task.user
is_refused_by_user s (pattern text) = false
is_refused_by_user s (refused fault) = false

-- what is planned of a line of which the parser makes this: nothing where its user is refused
abbrev pub job_planned : Settings → Line → Outcome → Option Cron
job_planned s is found = if is_refused_by_user s is then None else job_found found

-- what the entry of a line with that job leaves
abbrev pub PlansJob : Settings → PlanAsked → List ℕ → List ℕ → Entry → Option Cron → Seen → Seen → Type 0
PlansJob s asked above text entry (Some cron) old new = Adds s asked above (entry_seen entry) cron old new
PlansJob s asked above text entry None old new = Passes s asked text entry old new

abbrev pub PlansOutcome : Settings → PlanAsked → List ℕ → List ℕ → Entry → Outcome → Seen → Seen → Type 0
PlansOutcome s asked above text entry found old new = PlansJob s asked above text entry (job_planned s (entry_seen entry) found) old new

-- what stands above a line, of which so many were read in its file before: nothing above the first
abbrev pub above_at : ℕ → HeadingSeen → HeadingSeen
above_at lines above = if lines == 0 then no_heading else above

-- ---- the files that cron ignores

-- a file is one of those with these numbers
abbrev pub is_numbered : List ℕ → ℕ → Bool
is_numbered numbers number = list_any (λ (n : ℕ). n == number) numbers

-- these numbers, with one more, which stands there once
abbrev pub with_number : ℕ → List ℕ → List ℕ
with_number number numbers = if is_numbered numbers number then numbers else numbers ++ number ∷ []

-- those of the files that cron ignores as a whole, after one more line: that of its file, too, where cron ignores that for what was read of it so far
abbrev pub ignored_after : Dialect → Stand → List ℕ → List ℕ
ignored_after dialect stand numbers = if is_ignored dialect stand.lines stand.file then with_number stand.files numbers else numbers

-- the job of a line that has one is added, with what is shown of it, and any other line is told; the line may give a title to the next; and cron
-- may ignore its file
pub record Plans (s : Settings) (old : State Planner) (y : LineRead) (new : State Planner) : Type 0 where
  pub entry : Entry
  pub found : Outcome
  pub entry_is : IsEntryOf y entry
  pub read : IsOutcome s.parser y.is found
  pub planned : PlansOutcome s old.form.asked (above_at old.stand.lines (heading_seen old.form.above)).title y.bytes entry found
      (seen old.form.schedules old.form.jobs (at_line y.is y.is_fed old.stand) old.written) (seen new.form.schedules new.form.jobs new.stand new.written)
  pub above : heading_seen new.form.above ≡ heading (above_at old.stand.lines (heading_seen old.form.above)) y.is y.bytes
  pub ignored : new.form.ignored.items ≡ ignored_after s.dialect new.stand old.form.ignored.items
  pub asked : new.form.asked ≡ old.form.asked
  pub names : new.form.names ≡ old.form.names

-- ---- the plan

-- the list of a planner's jobs was written: each of them is in what was found, and it says whose starts these are
pub record WritesListed (s : Settings) (shared : Shared) (p : Planner) (old new : Written) : Type 0 where
  pub found : Found
  pub listed : IsListed (table_zone (start_of s).table.now) (start_of s).second (window_end s) s.listing p.schedules.items found
  pub written : WritesList s shared (whose_text p.schedules.items) (labels p.jobs.items) found old new

-- what starts of a planner's jobs in what its forms are about: each of them is in it, or named as left out
abbrev pub IsFoundBy : Settings → Planner → Found → Type 0
IsFoundBy s p found =
    IsFound (table_zone (start_of s).table.now) (start_of s).second (answered_until (start_of s).second (window_end s) s.listing) p.asked.most_a_day p.schedules.items found

-- what a planner's jobs answer was written, by its names of the zones
pub record WritesAnswered (s : Settings) (shared : Shared) (p : Planner) (old new : Written) : Type 0 where
  pub found : Found
  pub found_is : IsFoundBy s p found
  pub written : WritesAnswers s shared p.names p.schedules.items p.jobs.items found p.asked.questions old new

-- the plan of a planner's jobs was written: as a list where nothing is asked
abbrev pub WritesPlanAs : Bool → Settings → Shared → Planner → Written → Written → Type 0
WritesPlanAs true s shared p old new = WritesListed s shared p old new
WritesPlanAs false s shared p old new = WritesAnswered s shared p old new

-- where a file is asked for, nothing was
abbrev pub WritesUnlessFile : Option FileAsked → Settings → Shared → Planner → Written → Written → Type 0
WritesUnlessFile (Some file) s shared p old new = new ≡ old
WritesUnlessFile None s shared p old new = WritesPlanAs (asks_none p.asked.questions) s shared p old new

-- what is written after all files
abbrev pub WritesPlan : Settings → Shared → Planner → Written → Written → Type 0
WritesPlan s shared p old new = WritesUnlessFile p.asked.file s shared p old new

-- ---- the end of a file

-- one of these jobs is of the file with a number
abbrev pub has_jobs : ℕ → List Planned → Bool
has_jobs number jobs = list_any (λ (p : Planned). p.number == number) jobs

-- that its jobs are planned, where it has some
abbrev pub planned_text : Bool → List ℕ
planned_text has_some = if has_some then codes "  its jobs are in this plan, as cron would start them once that is mended\n" else []

-- what is said of a file as a whole, if anything is, and that its jobs are planned all the same, where it has some
abbrev pub planned_ending : Bool → List ℕ → List ℕ
planned_ending has_some [] = []
planned_ending has_some (b ∷ bs) = (b ∷ bs) ++ planned_text has_some

-- it was written, set apart
abbrev pub WritesPlanEnding : Settings → List Planned → Stand → Written → Written → Type 0
WritesPlanEnding s jobs stand old new = WritesApart (planned_ending (has_jobs stand.files jobs) (ending_of s.dialect stand.lines stand.file)) old new
