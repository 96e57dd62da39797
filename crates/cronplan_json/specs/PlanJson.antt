-- A plan as one object of JSON. Source: this crate's documentation, and docs/CRONTAB.md ("A plan as JSON").
use Rattle.std.specs.Prelude.{◌≡◌, ℕ, List, codes, map, Option, Some, None}
use Rattle.std.specs.List.{All}
use Rattle.std.specs.List.Sorted.{IsSorted}
use Rattle.std.specs.Borrow.{Bor}
use Rattle.serde_json.specs.Data.{Data, Members, boolean, string, array, object, member, no_members, put}
use Rattle.serde_json.specs.View.{items_of}
use Rattle.serde_json.specs.Written.{compact_text}
use Rattle.croner_base.specs.declared.time.table.ClockTable.{ClockTable}
use Rattle.croner_base.specs.TableZone.{table_zone}
use Rattle.cronplan.specs.declared.changes.ClockChange.{ClockChange}
use Rattle.cronplan.specs.declared.moments.Moment.{Moment}
use Rattle.cronplan.specs.declared.plan.Plan.{Plan}
use Rattle.cronplan.specs.declared.windows.Window.{Window}
use Rattle.cronplan.specs.Days.{AreDays}
use Rattle.cronplan.specs.Moments.{AreMoments}
use Rattle.cronplan.specs.Windows.{AreWindows, longest_cmp}
use Rattle.cronplan_forms.specs.declared.beside.OtherClock.{OtherClock}
use Rattle.cronplan_forms.specs.declared.beside.ShownTime.{ShownTime}
use Rattle.cronplan_forms.specs.declared.timed.TimedMoment.{TimedMoment}
use Rattle.cronplan_forms.specs.declared.timed.TimedWindow.{TimedWindow}
use Rattle.cronplan_forms.specs.declared.view.View.{View}
use Rattle.cronplan_forms.specs.declared.week.WeekDay.{WeekDay}
use Rattle.cronplan_forms.specs.Answers.{AreHourCounts}
use Rattle.cronplan_forms.specs.Besides.{IsShownTime}
use Rattle.cronplan_forms.specs.Timed.{AreTimedMoments, AreTimedWindows}
use Rattle.cronplan_forms.specs.Weeks.{IsNamedDay}
use Rattle.cronplan_json.specs.Objects.{count, counts, instant_object, job_objects, moment_object, window_object, day_object, texts, with_optional}

-- the least seconds of a window that is told
abbrev pub least_quiet : ℕ
least_quiet = 3_600

-- ---- what is told

-- the moments of a view's plan, each once, the earliest first, with what its clocks show then
pub record AreMomentsOf (v : View) (timed : List TimedMoment) : Type 0 where
  pub moments : List Moment
  pub moments_are : AreMoments v.plan.now.starts.items moments
  pub timed_are : AreTimedMoments v moments timed

-- the windows of it that are so long, the longest first, and of equal ones the earlier
pub record AreQuietOf (v : View) (timed : List TimedWindow) : Type 0 where
  pub windows : List Window
  pub windows_are : AreWindows v.plan.now.starts.items v.plan.now.span least_quiet windows
  pub longest : IsSorted longest_cmp windows
  pub timed_are : AreTimedWindows v windows timed

-- the dates of a plan on the clock of a table, each with the counts of its starts and with what it is called
pub record AreShownDays (table : ClockTable) (p : Plan) (shown : List WeekDay) : Type 0 where
  pub changes : List ClockChange
  pub days_are : AreDays (table_zone table) table.changes.items p.span p.starts.items (map (λ d. d.day.now) shown) changes
  pub names : All IsNamedDay shown

-- what is told of a plan beside its jobs: the first second of its span, and its end; its moments; the windows in which nothing starts; its
-- dates; and its starts by the hour of the day
pub record Told : Type 0 where
  pub first : ShownTime
  pub end : ShownTime
  pub moments : List TimedMoment
  pub quiet : List TimedWindow
  pub days : List WeekDay
  pub hours : List ℕ

-- it is that of a view
pub record IsTold (v : View) (told : Told) : Type 0 where
  pub first_is : IsShownTime v v.plan.now.span.first told.first
  pub end_is : IsShownTime v v.plan.now.span.end told.end
  pub moments_are : AreMomentsOf v told.moments
  pub quiet_are : AreQuietOf v told.quiet
  pub days_are : AreShownDays v.table.now v.plan.now told.days
  pub hours_are : AreHourCounts v.plan.now.starts.items told.hours

-- ---- the object

-- what the second zone is called, if one is shown
abbrev pub other_zone : Option OtherClock → Option Data
other_zone None = None
other_zone (Some other) = Some (string other.zone.now)

-- the members of the object of a view but for its lists, whose span begins and ends at these seconds, with lines that are to be read first
abbrev pub view_members : View → List (Bor (List ℕ)) → ShownTime → ShownTime → Members
view_members v lines first end =
    member (codes "cut") (boolean v.is_cut)
    (member (codes "from") (instant_object first)
    (member (codes "jobs") (array (items_of (job_objects v.frequent.now v.plan.now.starts.items 0 v.jobs.now)))
    (member (codes "kind") (string (codes "plan"))
    (member (codes "read_first") (texts lines)
    (member (codes "to") (instant_object end)
    (member (codes "version") (count 1)
    (member (codes "zone") (string v.zone.now) no_members)))))))

-- with these lists at their places: of its dates, its starts by the hour of the day, its moments and its windows
abbrev pub plan_members : View → List (Bor (List ℕ)) → ShownTime → ShownTime → Data → Data → Data → Data → Members
plan_members v lines first end days hours moments quiet =
    put (codes "quiet") quiet (put (codes "moments") moments (put (codes "hours") hours (put (codes "days") days (view_members v lines first end))))

-- and with the second zone
abbrev pub object_with : View → List (Bor (List ℕ)) → ShownTime → ShownTime → Data → Data → Data → Data → Data
object_with v lines first end days hours moments quiet =
    object (with_optional (codes "shown_zone") (other_zone v.other) (plan_members v lines first end days hours moments quiet))

-- with those that are told
abbrev pub plan_object : View → List (Bor (List ℕ)) → Told → Data
plan_object v lines told =
    object_with v lines told.first told.end
    (array (items_of (map day_object told.days))) (counts told.hours)
    (array (items_of (map (moment_object v.plan.now.starts.items) told.moments))) (array (items_of (map window_object told.quiet)))

-- it is that of a view, with lines that are to be read first
pub record IsPlanData (v : View) (lines : List (Bor (List ℕ))) (d : Data) : Type 0 where
  pub told : Told
  pub is_told : IsTold v told
  pub data_is : d ≡ plan_object v lines told

-- and this is its text, with no blanks
pub record IsPlanJson (v : View) (lines : List (Bor (List ℕ))) (text : List ℕ) : Type 0 where
  pub told : Told
  pub is_told : IsTold v told
  pub text_is : text ≡ compact_text (plan_object v lines told)
