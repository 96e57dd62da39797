-- Plans as files. Source: docs/CRONTAB.md ("A plan").
use Rattle.std.specs.Prelude.{◌≡◌, ℕ, nat_lt, List, [], ◌∷◌, ◌++◌, length, map, Option, Some, None, option_copied, string_bytes}
use Rattle.std.specs.Borrow.{Bor}
use Rattle.jiff.specs.declared.tz.timezone.TimeZone.{TimeZone}
use Rattle.jiff.specs.ZoneView.{plain_zone}
use Rattle.croner_base.specs.declared.time.table.ClockTable.{ClockTable}
use Rattle.cronplan.specs.declared.span.Span.{Span}
use Rattle.cronplan_forms.specs.declared.beside.OtherClock.{OtherClock}
use Rattle.cronplan_forms.specs.declared.calendar.Calendar.{Calendar}
use Rattle.cronplan_forms.specs.declared.calendar.event.Event.{Event}
use Rattle.cronplan_forms.specs.declared.calendar.of_plan.Naming.{Naming}
use Rattle.cronplan_forms.specs.declared.job.Job.{Job}
use Rattle.cronplan_forms.specs.declared.view.View.{View}
use Rattle.cronplan_forms.specs.Calendars.{calendar_text, most_events}
use Rattle.cronplan_forms.specs.PlanCalendars.{IsPlanCalendar}
use Rattle.cronplan_json.specs.PlanJson.{IsPlanJson}
use Rattle.cronplan_page.specs.declared.about.About.{About}
use Rattle.cronplan_page.specs.declared.markup.Line.{Line}
use Rattle.cronplan_page.specs.PlanPages.{IsPageText}
use Rattle.croncheck_planner.specs.declared.plan.Found.{Found}
use Rattle.croncheck_planner.specs.declared.planner.Planned.{Planned}
use Rattle.croncheck_planner.specs.declared.planner.Planner.{Planner}
use Rattle.croncheck_planner.specs.declared.planner.calendar.PlanFile.{PlanFile}
use Rattle.croncheck_planner.specs.declared.planner.page.PagePlanner.{PagePlanner}
use Rattle.croncheck_output.specs.Escaped.{spaced}
use Rattle.croncheck_report.specs.declared.settings.Settings.{Settings}
use Rattle.croncheck_report.specs.declared.shared.Shared.{Shared}
use Rattle.croncheck_planner.specs.PagePlans.{lines_told, warnings_of}
use Rattle.croncheck_planner.specs.PlanAnswers.{IsFollowedIn, IsViewOf}
use Rattle.croncheck_planner.specs.Planner.{is_numbered, IsFoundBy}

-- the clock of a second zone in a span, if one is shown and its clock is calm there
abbrev pub IsOtherTable : Option TimeZone → Span → Option ClockTable → Type 0
IsOtherTable None span table = table ≡ None
IsOtherTable (Some zone) span table = IsFollowedIn (plain_zone zone) span table

-- the same with what that zone is called
abbrev pub IsOtherClockIn : Option TimeZone → List ℕ → Span → Option OtherClock → Type 0
IsOtherClockIn None name span other = other ≡ None
IsOtherClockIn (Some zone) name span other =
    (clock : OtherClock) × (other ≡ Some clock) × (clock.zone.now ≡ name) × IsFollowedIn (plain_zone zone) span (option_copied clock.table)

-- those of a planner's jobs are marked whose files cron ignores
abbrev pub AreMarked : Planner → List Job → Type 0
AreMarked p jobs = map (λ (j : Job). j.is_ignored) jobs ≡ map (λ (job : Planned). is_numbered p.ignored.items job.number) p.jobs.items

-- it is this naming of a calendar, with the name as bytes of a file are shown
pub record IsNamingShown (n shown : Naming) : Type 0 where
  pub name_is : shown.name.now ≡ spaced n.name.now
  pub stamp_is : shown.stamp ≡ n.stamp
  pub lasts_is : shown.lasts ≡ n.lasts

-- it is the calendar of the plan of a planner's jobs
pub record IsCalendar (s : Settings) (p : Planner) (n : Naming) (file : PlanFile) : Type 0 where
  pub found : Found
  pub naming : Naming
  pub view : View
  pub calendar : Calendar
  pub events : List Event
  pub found_is : IsFoundBy s p found
  pub is_view : IsViewOf s p.jobs.items found view
  pub are_marked : AreMarked p view.jobs.now
  pub naming_is : IsNamingShown n naming
  pub is_calendar : IsPlanCalendar view naming calendar events
  pub text_is : string_bytes file.text ≡ calendar_text calendar events
  pub cut : file.is_cut ≡ nat_lt most_events (length found.plan.starts.items)

-- it is the page of the plan of the jobs of a page's planner, by its name of the zone, with the warnings of each, and what cron ignores
pub record IsPage (s : Settings) (shared : Shared) (p : PagePlanner) (title : List ℕ) (ignored : List Line) (text : List ℕ) : Type 0 where
  pub found : Found
  pub view : View
  pub about : About
  pub found_is : IsFoundBy s p.planner found
  pub is_view : IsViewOf s p.planner.jobs.items found view
  pub zone_is : view.zone.now ≡ string_bytes p.planner.names.zone
  pub other_is : IsOtherClockIn shared.other_zone (string_bytes p.planner.names.other) found.plan.span view.other
  pub title_is : about.title.now ≡ spaced title
  pub ignored_are : about.ignored.now ≡ ignored
  pub warnings_are : map (λ w. lines_told w.lines.now) about.warnings.now ≡ warnings_of p.found.items
  pub is_page : IsPageText view about text

-- it is the plan of a planner's jobs as JSON, by its name of the zone, with lines that are to be read first, and a line feed
pub record IsJson (s : Settings) (shared : Shared) (p : Planner) (lines : List (Bor (List ℕ))) (text : List ℕ) : Type 0 where
  pub found : Found
  pub view : View
  pub object : List ℕ
  pub found_is : IsFoundBy s p found
  pub is_view : IsViewOf s p.jobs.items found view
  pub are_marked : AreMarked p view.jobs.now
  pub zone_is : view.zone.now ≡ string_bytes p.names.zone
  pub other_is : IsOtherClockIn shared.other_zone (string_bytes p.names.other) found.plan.span view.other
  pub is_json : IsPlanJson view lines object
  pub text_is : text ≡ object ++ 10 ∷ []
