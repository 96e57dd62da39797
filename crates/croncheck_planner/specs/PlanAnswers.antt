-- What a plan answers, as it is written. Source: docs/CRONTAB.md ("A plan").
use Rattle.std.specs.Prelude.{◌≡◌, ◌==◌, ◌⊎◌, ℕ, ℤ, pos, ◌-ℤ◌, ◌≤ℤ◌, List, [], ◌++◌, codes, length, map, Option, Some, None, string_bytes}
use Rattle.jiff.specs.declared.tz.timezone.TimeZone.{TimeZone}
use Rattle.jiff_tz.specs.declared.timezone.TimeZone.{TimeZone as PlainZone}
use Rattle.jiff.specs.ZoneView.{plain_zone}
use Rattle.croner_base.specs.TableZone.{table_zone}
use Rattle.croner_base.specs.ZoneTable.{IsCalmWindow, IsNoTable}
use Rattle.croner_base.specs.ZonedZone.{zone_reads}
use Rattle.croner_base.specs.declared.errors.CronError.{CronError}
use Rattle.croner_base.specs.declared.time.table.ClockTable.{ClockTable}
use Rattle.cronplan.specs.declared.plan.Plan.{Plan}
use Rattle.cronplan.specs.declared.span.Span.{Span}
use Rattle.cronplan.specs.OtherClock.{IsOnClock}
use Rattle.cronplan_forms.specs.declared.answers.questions.Questions.{Questions}
use Rattle.cronplan_forms.specs.declared.job.Job.{Job}
use Rattle.cronplan_forms.specs.declared.view.View.{View}
use Rattle.cronplan_forms.specs.Answers.{left_out_text}
use Rattle.cronplan_forms.specs.Questions.{IsAnswers}
use Rattle.cronplan_jobs.specs.declared.listing.Schedule.{Schedule}
use Rattle.croncheck_planner.specs.declared.plan.Found.{Found}
use Rattle.croncheck_planner.specs.declared.planner.ClockNames.{ClockNames}
use Rattle.croncheck_planner.specs.declared.planner.Planned.{Planned}
use Rattle.croncheck_report.specs.declared.settings.Settings.{Settings}
use Rattle.croncheck_report.specs.declared.shared.Shared.{Shared}
use Rattle.croncheck_output.specs.Output.{Written, WritesApart}
use Rattle.croncheck_planner.specs.Plan.{is_cut}
use Rattle.croncheck_planner.specs.Dropped.{AreDropped}
use Rattle.croncheck_planner.specs.PlanList.{head_text, whose_text}
use Rattle.croncheck_report.specs.Settings.{start_of}

-- what the forms of a plan are told of a job: which of equal ones it is they find themselves
pub record JobTold : Type 0 where
  pub title : List ℕ
  pub words : List ℕ
  pub file : List ℕ
  pub line : ℕ
  pub user : List ℕ
  pub times : List ℕ
  pub command : List ℕ
  pub equal : ℕ

abbrev pub job_told : Job → JobTold
job_told j = record {
  title = j.title.now;
  words = j.words.now;
  file = j.file.now;
  line = j.line;
  user = j.user.now;
  times = j.times.now;
  command = j.command.now;
  equal = j.equal;
}

abbrev pub jobs_told : List Job → List JobTold
jobs_told jobs = map job_told jobs

-- that is what is shown of it
abbrev pub job_planned : Planned → JobTold
job_planned p = record {
  title = string_bytes p.title;
  words = string_bytes p.words;
  file = string_bytes p.file;
  line = p.line;
  user = string_bytes p.user;
  times = string_bytes p.times;
  command = p.command.items;
  equal = 0;
}

abbrev pub jobs_planned : List Planned → List JobTold
jobs_planned jobs = map job_planned jobs

-- what was found of jobs, as the forms of a plan have it
pub record IsViewOf (s : Settings) (jobs : List Planned) (found : Found) (v : View) : Type 0 where
  pub plan : v.plan.now ≡ found.plan
  pub table : v.table.now ≡ (start_of s).table.now
  pub jobs_are : jobs_told v.jobs.now ≡ jobs_planned jobs
  pub frequent : v.frequent.now ≡ found.frequent.items
  pub is_cut : v.is_cut ≡ is_cut found

-- what a plan of jobs leaves out
abbrev pub IsLeftOut : Settings → List Planned → Found → List ℕ → Type 0
IsLeftOut s jobs found text = (view : View) × IsViewOf s jobs found view × (text ≡ left_out_text view)

-- the answers on the clock of the zone that is shown, which is called so, with the jobs that lack a start where it is put forward
pub record AreOwnAnswers (s : Settings) (name : List ℕ) (schedules : List Schedule) (jobs : List Planned) (found : Found) (asked : Questions) (text : List ℕ) : Type 0 where
  pub view : View
  pub is_view : IsViewOf s jobs found view
  pub zone_is : view.zone.now ≡ name
  pub dropped_are : AreDropped (start_of s) schedules view.dropped.now
  pub answers : IsAnswers view asked text

-- what was found of jobs, with this plan in place of its own: on the clock of a table, whose zone is called so
pub record IsOtherView (table : ClockTable) (name : List ℕ) (jobs : List Job) (plan : Plan) (found : Found) (v : View) : Type 0 where
  pub plan_is : v.plan.now ≡ plan
  pub table_is : v.table.now ≡ table
  pub zone_is : v.zone.now ≡ name
  pub jobs_are : v.jobs.now ≡ jobs
  pub frequent_are : v.frequent.now ≡ found.frequent.items
  pub cut_is : v.is_cut ≡ is_cut found
  pub dropped_are : v.dropped.now ≡ []

-- the answers on the clock of a table, whose zone is called so
pub record AreAnswersOn (table : ClockTable) (name : List ℕ) (jobs : List Planned) (found : Found) (asked : Questions) (text : List ℕ) : Type 0 where
  pub told : List Job
  pub shown : Plan
  pub view : View
  pub told_is : jobs_told told ≡ jobs_planned jobs
  pub on_clock : IsOnClock (table_zone table) found.plan shown
  pub is_view : IsOtherView table name told shown found view
  pub answers : IsAnswers view asked text

-- what stands above answers: the zone on whose clock they are
unfoldable pub clock_head : List ℕ → List ℕ
clock_head name = codes "on the clock of " ++ (name ++ codes ":\n")

-- what stands in place of the answers on another clock where that isn't followed
unfoldable pub unfollowed_text : List ℕ → List ℕ
unfollowed_text name = codes "the clock of " ++ (name ++ codes " isn't followed in these days\n")

-- what a plan of jobs leaves out was written
abbrev pub WritesLeftOut : Settings → List Planned → Found → Written → Written → Type 0
WritesLeftOut s jobs found old new = (text : List ℕ) × IsLeftOut s jobs found text × WritesApart text old new

-- these answers were written under the name of the zone on whose clock they are
pub record WritesOnClock (name text : List ℕ) (old new : Written) : Type 0 where
  pub begun : Written
  pub head : WritesApart (clock_head name) old begun
  pub written : WritesApart text begun new

-- the answers were written on the clock of the zone that is shown
pub record WritesOwnAnswers (s : Settings) (name : List ℕ) (schedules : List Schedule) (jobs : List Planned) (found : Found) (asked : Questions) (old new : Written) : Type 0 where
  pub text : List ℕ
  pub answers : AreOwnAnswers s name schedules jobs found asked text
  pub written : WritesOnClock name text old new

-- the same on the clock of a table
pub record WritesAnswersOn (table : ClockTable) (name : List ℕ) (jobs : List Planned) (found : Found) (asked : Questions) (old new : Written) : Type 0 where
  pub text : List ℕ
  pub answers : AreAnswersOn table name jobs found asked text
  pub written : WritesOnClock name text old new

-- the clock of a zone in a span, from the second before it, so that a change at its first second is one, up to its end
abbrev pub IsClockIn : PlainZone → Span → ClockTable → Type 0
IsClockIn z span table = (i : ℤ) → (span.first -ℤ pos 1) ≤ℤ i → i ≤ℤ span.end → (table_zone table).reads i ≡ zone_reads z i

-- or why there is none: it isn't calm there, or memory is lacking
abbrev pub IsNoClockIn : PlainZone → Span → CronError → Type 0
IsNoClockIn z span e = IsNoTable z (span.first -ℤ pos 1) span.end e

-- the clock of a zone in a span; or none, where it isn't calm there
abbrev pub IsFollowedIn : PlainZone → Span → Option ClockTable → Type 0
IsFollowedIn z span None = ¬ (IsCalmWindow z (span.first -ℤ pos 1) span.end)
IsFollowedIn z span (Some table) = IsClockIn z span table

-- the answers were written on the clock of a zone, or that it isn't followed there
abbrev pub WritesOnZone : PlainZone → List ℕ → List Planned → Found → Questions → Written → Written → Type 0
WritesOnZone z name jobs found asked old new =
    ((table : ClockTable) × IsClockIn z found.plan.span table × WritesAnswersOn table name jobs found asked old new)
    ⊎ (¬ (IsCalmWindow z (found.plan.span.first -ℤ pos 1) found.plan.span.end) × WritesApart (unfollowed_text name) old new)

abbrev pub WritesOtherOf : Option TimeZone → List ℕ → List Planned → Found → Questions → Written → Written → Type 0
WritesOtherOf None name jobs found asked old new = new ≡ old
WritesOtherOf (Some zone) name jobs found asked old new = WritesOnZone (plain_zone zone) name jobs found asked old new

-- the answers were written once more on the other zone's clock, if one is to be shown; it is called so
abbrev pub WritesOtherAnswers : Shared → List ℕ → List Planned → Found → Questions → Written → Written → Type 0
WritesOtherAnswers shared name jobs found asked old new = WritesOtherOf shared.other_zone name jobs found asked old new

-- the answers were written: in front of them whose starts these are, where there are any, and what is left out; below them those on the other clock
pub record WritesAnswers (s : Settings) (shared : Shared) (names : ClockNames) (schedules : List Schedule) (jobs : List Planned) (found : Found) (asked : Questions) (old new : Written) : Type 0 where
  pub begun : Written
  pub told : Written
  pub answered : Written
  pub head : WritesApart (head_text (whose_text schedules) (length found.plan.starts.items == 0)) old begun
  pub left_out : WritesLeftOut s jobs found begun told
  pub own : WritesOwnAnswers s (string_bytes names.zone) schedules jobs found asked told answered
  pub other : WritesOtherAnswers shared (string_bytes names.other) jobs found asked answered new
