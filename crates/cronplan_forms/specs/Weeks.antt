-- The dates of a plan as a picture of text. Source: this crate's documentation.
use Rattle.std.specs.Prelude.{◌≡◌, ℕ, ℤ, pos, ◌+◌, ◌==◌, ◌+ℤ◌, int_lt, nat_lt, Bool, List, [], ◌∷◌, ◌++◌, codes, map, take, Option, Some, None, if◌then◌else◌}
use Rattle.std.specs.Fmt.{decimal}
use Rattle.std.specs.Int.{saturate_signed}
use Rattle.std.specs.List.{All, flat_map, list_any}
use Rattle.std.specs.Ordering.{int_eq}
use mir.Syntax.{w64}
use Rattle.croner_base.specs.declared.time.table.ClockTable.{ClockTable}
use Rattle.croner_base.specs.TableZone.{table_zone}
use Rattle.cronplan.specs.declared.changes.ClockChange.{ClockChange}
use Rattle.cronplan.specs.declared.counts.Unit.TheVariants as units
use Rattle.cronplan.specs.declared.days.HourCell.{HourCell}
use Rattle.cronplan.specs.declared.moments.Moment.{Moment}
use Rattle.cronplan.specs.declared.plan.Plan.{Plan}
use Rattle.cronplan.specs.declared.start.JobStart.{JobStart}
use Rattle.cronplan.specs.Counts.{starts_at}
use Rattle.cronplan.specs.Days.{AreDays}
use Rattle.cronplan_forms.specs.declared.answers.quiet.ShownWindow.{ShownWindow}
use Rattle.cronplan_forms.specs.declared.job.Job.{Job}
use Rattle.cronplan_forms.specs.declared.view.Dropped.{Dropped}
use Rattle.cronplan_forms.specs.declared.view.View.{View}
use Rattle.cronplan_forms.specs.declared.week.Signs.{Signs}
use Rattle.cronplan_forms.specs.declared.week.Signs.TheVariants as signs
use Rattle.cronplan_forms.specs.declared.week.WeekDay.{WeekDay}
use Rattle.cronplan_forms.specs.declared.week.changes.NamedWall.{NamedWall}
use Rattle.cronplan_forms.specs.declared.week.changes.ShownChange.{ShownChange}
use Rattle.cronplan_forms.specs.Answers.{job_name, shows_all, starts_text}
use Rattle.cronplan_forms.specs.Clocks.{clock_text, second_of_day}
use Rattle.cronplan_forms.specs.WindowRuns.{AreTold, least_longest, longest_text, most_longest, window_runs}
use Rattle.cronplan_forms.specs.DateNames.{IsDateName, date_name_text, date_of_wall}

-- ---- signs

-- a block of so many eighths, from 1 to 8, as UTF-8
abbrev pub block : ℕ → List ℕ
block eighths = 226 ∷ 150 ∷ (128 + eighths) ∷ []

-- the block of so many starts: a step more for each doubling; a dot for none
abbrev pub block_of : ℕ → List ℕ
block_of n =
    if n == 0 then 194 ∷ 183 ∷ []
    else if nat_lt n 2 then block 1
    else if nat_lt n 4 then block 2
    else if nat_lt n 8 then block 3
    else if nat_lt n 16 then block 4
    else if nat_lt n 32 then block 5
    else if nat_lt n 64 then block 6
    else if nat_lt n 128 then block 7
    else block 8

-- the digit of so many starts, by the same steps
abbrev pub digit_of : ℕ → List ℕ
digit_of n =
    if n == 0 then codes "."
    else if nat_lt n 2 then codes "1"
    else if nat_lt n 4 then codes "2"
    else if nat_lt n 8 then codes "3"
    else if nat_lt n 16 then codes "4"
    else if nat_lt n 32 then codes "5"
    else if nat_lt n 64 then codes "6"
    else if nat_lt n 128 then codes "7"
    else codes "8"

abbrev pub step_sign : Signs → ℕ → List ℕ
step_sign signs.Blocks n = block_of n
step_sign signs.Digits n = digit_of n

-- the sign of an hour: an x where the clock skips it, and a dash where the plan doesn't have it
abbrev pub sign_of : Signs → HourCell → List ℕ
sign_of s cell = if cell.skipped then codes "x" else if cell.outside then codes "-" else step_sign s cell.starts

-- ---- rows

-- the signs of hours, a space after each
unfoldable pub cells_text : Signs → List HourCell → List ℕ
cells_text s cells = flat_map (λ cell. sign_of s cell ++ codes " ") cells

-- how many starts there are at a moment, and its time
unfoldable pub moment_text : Moment → List ℕ
moment_text m = codes ", " ++ (decimal m.starts ++ (codes " at " ++ clock_text (second_of_day m.wall)))

-- the fullest moment, if there is one
abbrev pub fullest_text : Option Moment → List ℕ
fullest_text None = []
fullest_text (Some m) = moment_text m

-- how many starts a date has, its fullest moment, and the end of the line
unfoldable pub total_text : ℕ → Option Moment → List ℕ
total_text starts fullest = decimal starts ++ (fullest_text fullest ++ codes "\n")

-- a date: its name, its hours, how many starts it has, and its fullest moment
unfoldable pub row_text : Signs → WeekDay → List ℕ
row_text s d = date_name_text d.name ++ (codes "  " ++ (cells_text s d.day.now.hours.items ++ total_text d.day.now.starts d.day.now.fullest))

unfoldable pub rows_text : Signs → List WeekDay → List ℕ
rows_text s days = flat_map (row_text s) days

-- the line above them
unfoldable pub head_text : List ℕ
head_text = codes "            0     3     6     9     12    15    18    21    starts, fullest\n"

-- ---- what is told around them

-- a sign with the least starts that it stands for
abbrev pub step_text : Signs → ℕ → List ℕ
step_text s least = step_sign s least ++ (codes "=" ++ (decimal least ++ codes "  "))

unfoldable pub steps_text : Signs → List ℕ → List ℕ
steps_text s steps = flat_map (step_text s) steps

-- an hour of a date is one that the clock skips; it is one that the plan doesn't have
abbrev pub has_skipped : WeekDay → Bool
has_skipped d = list_any (λ cell. cell.skipped) d.day.now.hours.items

abbrev pub has_outside : WeekDay → Bool
has_outside d = list_any (λ cell. cell.outside) d.day.now.hours.items

-- what these signs mean, where they stand in a picture
abbrev pub skipped_line : Bool → List ℕ
skipped_line has_one = if has_one then codes "x: the clock skips the hour\n" else []

abbrev pub outside_line : Bool → List ℕ
outside_line has_one = if has_one then codes "-: not in the plan\n" else []

-- what the signs mean
unfoldable pub legend_text : Signs → Bool → Bool → List ℕ
legend_text s skipped outside =
    steps_text s (0 ∷ 1 ∷ 2 ∷ 4 ∷ 8 ∷ 16 ∷ 32 ∷ 64 ∷ 128 ∷ [])
    ++ (codes "starts in an hour, or more\n" ++ (skipped_line skipped ++ outside_line outside))

-- the same of the signs of these dates
abbrev pub legend_of : Signs → List WeekDay → List ℕ
legend_of s days = legend_text s (list_any has_skipped days) (list_any has_outside days)

-- the rows of a picture, and what the signs mean
unfoldable pub picture_text : Signs → List WeekDay → List ℕ
picture_text s days = head_text ++ (rows_text s days ++ legend_of s days)

-- ---- changes of the clock

-- the wall second that would follow what the clock showed last
abbrev pub expected_wall : ClockChange → ℤ
expected_wall c = saturate_signed w64 (c.before +ℤ pos 1)

-- the clock is put forward: it shows a later time than the second before
abbrev pub is_put_forward : ClockChange → Bool
is_put_forward c = int_lt c.before c.shown

-- a wall second is shown with its date
pub record IsNamedWall (wall : ℤ) (w : NamedWall) : Type 0 where
  pub wall_is : w.wall ≡ wall
  pub date_is : IsDateName (date_of_wall wall) w.date

-- a change is shown with what lies around it, and with how many of the starts come at its second
pub record IsShownChange (starts : List JobStart) (s : ShownChange) : Type 0 where
  pub expected_is : IsNamedWall (expected_wall s.change) s.expected
  pub shown_is : IsNamedWall s.change.shown s.shown
  pub starts_are : s.starts ≡ starts_at units.Second s.change.second starts

-- a wall second: the date, the hour and the minute
abbrev pub wall_text : NamedWall → List ℕ
wall_text w = date_name_text w.date ++ (32 ∷ clock_text (second_of_day w.wall))

-- what it skips, and what it shows twice
unfoldable pub forward_text : NamedWall → NamedWall → List ℕ
forward_text expected shown = codes "the clock skips " ++ (wall_text expected ++ (codes " to " ++ wall_text shown))

unfoldable pub back_text : NamedWall → NamedWall → List ℕ
back_text expected shown = codes "the clock shows " ++ (wall_text shown ++ (codes " to " ++ (wall_text expected ++ codes " twice")))

abbrev pub kind_text : ShownChange → List ℕ
kind_text s = if is_put_forward s.change then forward_text s.expected s.shown else back_text s.expected s.shown

-- how many starts come where the clock is put forward, at the second of the change
unfoldable pub starts_then : ℕ → List ℕ
starts_then starts = codes "; " ++ (starts_text starts ++ codes " then\n")

-- the end of a change's line: that count, where the clock is put forward
abbrev pub end_of_change : ShownChange → List ℕ
end_of_change s = if is_put_forward s.change then starts_then s.starts else codes "\n"

-- a change as a line
unfoldable pub change_line : ShownChange → List ℕ
change_line s = kind_text s ++ end_of_change s

-- a job that lacks a start there, since its time is skipped and not made up for, as a line: its file and line, and its title
unfoldable pub dropped_line : List Job → ℕ → List ℕ
dropped_line jobs k = codes "  not made up for: " ++ (job_name jobs k ++ codes "\n")

-- the same of one that lacks it at this change; nothing of one that does at another
abbrev pub dropped_at : List Job → ClockChange → Dropped → List ℕ
dropped_at jobs c d = if int_eq d.second c.second then dropped_line jobs d.job else []

unfoldable pub dropped_lines : List Job → ClockChange → List Dropped → List ℕ
dropped_lines jobs c dropped = flat_map (dropped_at jobs c) dropped

-- a change, and below it these jobs
unfoldable pub change_text : View → ShownChange → List ℕ
change_text v s = change_line s ++ dropped_lines v.jobs.now s.change v.dropped.now

unfoldable pub change_lines : View → List ShownChange → List ℕ
change_lines v changes = flat_map (change_text v) changes

-- ---- the picture of a plan

-- a date with its name
abbrev pub IsNamedDay : WeekDay → Type 0
IsNamedDay d = IsDateName d.day.now.date d.name

-- the dates of a plan as rows, the changes of the clock, and the windows in which nothing starts
pub record PlanWeek : Type 0 where
  pub rows : List WeekDay
  pub changes : List ShownChange
  pub windows : List ShownWindow

-- they are those of a plan on the clock of a table: each date of it, with the counts of its starts
pub record IsPlanWeek (table : ClockTable) (p : Plan) (week : PlanWeek) : Type 0 where
  pub days : AreDays (table_zone table) table.changes.items p.span p.starts.items (map (λ r. r.day.now) week.rows) (map (λ s. s.change) week.changes)
  pub names : All IsNamedDay week.rows
  pub shown : All (IsShownChange p.starts.items) week.changes
  pub windows_are : AreTold (table_zone table) p least_longest week.windows

-- the picture, and below it the changes and the longest windows
abbrev pub week_text : Signs → View → PlanWeek → List ℕ
week_text s v week = picture_text s week.rows ++ (change_lines v week.changes ++ longest_text (shows_all v) (take most_longest (window_runs week.windows)))
