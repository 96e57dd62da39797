-- The page of a plan, as what it tells is found. Source: this crate's documentation.
use Rattle.std.specs.Prelude.{◌≡◌, ℕ, List, map, take}
use Rattle.std.specs.List.{All}
use Rattle.std.specs.List.Sorted.{IsSorted}
use Rattle.croner_base.specs.declared.time.table.ClockTable.{ClockTable}
use Rattle.croner_base.specs.TableZone.{table_zone}
use Rattle.cronplan.specs.declared.changes.ClockChange.{ClockChange}
use Rattle.cronplan.specs.declared.moments.Moment.{Moment}
use Rattle.cronplan.specs.declared.plan.Plan.{Plan}
use Rattle.cronplan.specs.declared.windows.Window.{Window}
use Rattle.cronplan.specs.Days.{AreDays}
use Rattle.cronplan.specs.Moments.{AreFullest}
use Rattle.cronplan.specs.Windows.{AreWindows, longest_cmp}
use Rattle.cronplan_forms.specs.declared.timed.TimedMoment.{TimedMoment}
use Rattle.cronplan_forms.specs.declared.timed.TimedWindow.{TimedWindow}
use Rattle.cronplan_forms.specs.declared.view.View.{View}
use Rattle.cronplan_forms.specs.declared.week.WeekDay.{WeekDay}
use Rattle.cronplan_forms.specs.Besides.{IsShownTime}
use Rattle.cronplan_forms.specs.Timed.{AreTimedMoments, AreTimedWindows}
use Rattle.cronplan_forms.specs.Weeks.{IsNamedDay}
use Rattle.cronplan_page.specs.declared.about.About.{About}
use Rattle.cronplan_page.specs.declared.page.Page.{Page}
use Rattle.cronplan_page.specs.declared.timed.TimedChange.{TimedChange}
use Rattle.cronplan_page.specs.Pages.{page_text}
use Rattle.cronplan_page.specs.Timed.{AreTimedStarts, AreTimedChanges}

-- so many windows are shown at most, and so many moments
abbrev pub most_quiet : ℕ
most_quiet = 5

abbrev pub most_fullest : ℕ
most_fullest = 5

-- the longest windows of a plan: the first of all, the longest of which comes first
pub record AreLongest (v : View) (quiet : List TimedWindow) : Type 0 where
  pub windows : List Window
  pub are_windows : AreWindows v.plan.now.starts.items v.plan.now.span 1 windows
  pub order : IsSorted longest_cmp windows
  pub timed : AreTimedWindows v (take most_quiet windows) quiet

-- its fullest moments
pub record AreFullestOf (v : View) (fullest : List TimedMoment) : Type 0 where
  pub moments : List Moment
  pub are_fullest : AreFullest v.plan.now.starts.items most_fullest moments
  pub timed : AreTimedMoments v moments fullest

-- its dates, and the changes of the clock
pub record AreDaysOf (table : ClockTable) (plan : Plan) (named : List WeekDay) (timed : List TimedChange) : Type 0 where
  pub changes : List ClockChange
  pub are_days : AreDays (table_zone table) table.changes.items plan.span plan.starts.items (map (λ d. d.day.now) named) changes
  pub names : All IsNamedDay named
  pub are_timed : AreTimedChanges (table_zone table) changes timed

-- the page tells of a view and of what stands beside it: each of its values is found of the plan
pub record IsPageOf (view : View) (about : About) (page : Page) : Type 0 where
  pub view_is : page.view ≡ view
  pub about_is : page.about ≡ about
  pub first_is : IsShownTime view view.plan.now.span.first page.first
  pub end_is : IsShownTime view view.plan.now.span.end page.end
  pub quiet_are : AreLongest view page.quiet.now
  pub fullest_are : AreFullestOf view page.fullest.now
  pub starts_are : AreTimedStarts view view.plan.now.starts.items page.starts.now
  pub days_are : AreDaysOf view.table.now view.plan.now page.days.now page.changes.now

-- the text is that of such a page
pub record IsPageText (view : View) (about : About) (text : List ℕ) : Type 0 where
  pub page : Page
  pub is_page : IsPageOf view about page
  pub text_is : text ≡ page_text page
