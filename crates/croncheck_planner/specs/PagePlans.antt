-- What is taken of files for the page of a plan. Source: docs/CRONTAB.md ("A plan"), and this crate's documentation of `PagePlanner`.
use Rattle.std.specs.Prelude.{◌≡◌, ℕ, Bool, true, false, List, [], ◌∷◌, ◌++◌, map, filter, Option, Some, None, string_bytes, unwrap_or}
use Rattle.std.specs.declared.alloc.Global.{Global}
use Rattle.std.specs.declared.vec.Vec.{Vec}
use Rattle.croner.specs.declared.job.Cron.{Cron}
use Rattle.crontab.specs.declared.content.Outcome.{Outcome}
use Rattle.crontab.specs.declared.line.Entry.{Entry}
use Rattle.crontab.specs.Checked.{LineRead, IsEntryOf}
use Rattle.crontab.specs.Content.{IsOutcome}
use Rattle.crontab.specs.Line.{Line}
use Rattle.cronplan_page.specs.declared.markup.Line.{Line as PageLine}
use Rattle.croncheck_findings.specs.declared.findings.Finding.{Finding}
use Rattle.croncheck_output.specs.declared.severity.Severity.{Severity}
use Rattle.croncheck_output.specs.declared.severity.Severity.TheVariants as severities
use Rattle.cronplan_forms.specs.declared.asked.PlanAsked.{PlanAsked}
use Rattle.croncheck_planner.specs.declared.planner.page.PagePlanner.{PagePlanner}
use Rattle.croncheck_report.specs.declared.report.Report.{Report}
use Rattle.croncheck_runs.specs.declared.runs.Listing.TheVariants as listings
use Rattle.croncheck_report.specs.declared.settings.Settings.{Settings}
use Rattle.croncheck_findings.specs.Findings.{findings_seen, findings_of_line}
use Rattle.croncheck_output.specs.Output.{Written, WritesApart}
use Rattle.croncheck_planner.specs.Ignored.{ignored_text}
use Rattle.croncheck_planner.specs.Planner.{Jobs, Keeps, above_at, job_planned, jobs_seen}
use Rattle.croncheck_reading.specs.Progress.{Reports}
use Rattle.croncheck_reading.specs.Sink.{State}
use Rattle.croncheck_reading.specs.Tally.{one_more}
use Rattle.croncheck_planner.specs.Titles.{heading, heading_seen}

-- ---- what to beware of

abbrev pub is_warning : Severity → Bool
is_warning severities.Error = false
is_warning severities.Warning = true
is_warning severities.Note = false

-- a line of a page: what stands in front of it, and the rest
pub record LineTold : Type 0 where
  pub head : List ℕ
  pub rest : List ℕ

abbrev pub line_told : PageLine → LineTold
line_told l = record { head = l.head.now; rest = l.rest.now }

-- the same of several lines
abbrev pub lines_told : List PageLine → List LineTold
lines_told lines = map line_told lines

-- a warning: its name, and what it says
abbrev pub warning_told : Finding → LineTold
warning_told f = record { head = f.name.now; rest = string_bytes f.text }

-- the warnings of what was found of the line of a job
abbrev pub warnings_in : List Finding → List LineTold
warnings_in found = map warning_told (filter (λ (f : Finding). is_warning f.severity) found)

-- the same of the lines of several jobs
abbrev pub warnings_of : List (Vec Finding Global) → List (List LineTold)
warnings_of all = map (λ found. warnings_in found.items) all

-- ---- the lines of files

-- one run of a job alone is found
abbrev pub brief_of : Settings → Settings
brief_of s = record s { listing = listings.Count 1; previous = None; tells_often = false }

-- the job that is planned, if there is one, is one more; and whether there is one
abbrev pub KeepsIf : Settings → PlanAsked → List ℕ → ℕ → List ℕ → ℕ → Line → Option Cron → Jobs → Jobs → Bool → Type 0
KeepsIf s asked above number file line is (Some cron) old new is_planned = (is_planned ≡ true) × Keeps s asked above number file line is cron old new
KeepsIf s asked above number file line is None old new is_planned = (is_planned ≡ false) × (new ≡ old)

-- what was found of the line of a job that is planned was kept, and what is wrong with any other was written
abbrev pub TellsLine : List ℕ → ℕ → Bool → Report → Vec Finding Global → List (Vec Finding Global) → List (Vec Finding Global) → Written → Written → Type 0
TellsLine file line true report found old new before after = (new ≡ old ++ found ∷ []) × (after ≡ before)
TellsLine file line false report found old new before after = (new ≡ old) × WritesApart (ignored_text file line report found.items) before after

-- what a line leaves
pub record PlansLine (s : Settings) (old : State PagePlanner) (y : LineRead) (new : State PagePlanner) : Type 0 where
  pub entry : Entry
  pub outcome : Outcome
  pub is_planned : Bool
  pub report : Report
  pub found : Vec Finding Global
  pub entry_is : IsEntryOf y entry
  pub read : IsOutcome s.parser y.is outcome
  pub kept : KeepsIf s old.form.planner.asked (above_at old.stand.lines (heading_seen old.form.planner.above)).title old.stand.files old.stand.file.name (one_more old.stand.lines) y.is
      (job_planned s y.is outcome) (jobs_seen old.form.planner.schedules old.form.planner.jobs) (jobs_seen new.form.planner.schedules new.form.planner.jobs) is_planned
  pub reported : Reports (brief_of s) old.stand y report new.stand
  pub found_is : findings_seen found.items ≡ findings_of_line y.bytes report
  pub told : TellsLine new.stand.file.name new.stand.lines is_planned report found old.form.found.items new.form.found.items old.written new.written
  pub above : heading_seen new.form.planner.above ≡ heading (above_at old.stand.lines (heading_seen old.form.planner.above)) y.is y.bytes
  pub asked : new.form.planner.asked ≡ old.form.planner.asked
  pub names : new.form.planner.names ≡ old.form.planner.names
