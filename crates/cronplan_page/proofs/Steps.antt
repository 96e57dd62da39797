-- Texts of lists: one element more.
use Rattle.std.proofs.Common.{◌≡◌, ◌∙◌, ◌+◌, ◌<◌, ℕ, ℤ, List, ◌++◌, length, get_or, drop, ap, sym}
use Rattle.std.specs.List.{flat_map}
use Rattle.std.proofs.lemmas.List.{at_drop_more}
use Rattle.cronplan.specs.declared.days.HourCell.{HourCell}
use Rattle.cronplan.specs.declared.frequent.Frequent.{Frequent}
use Rattle.cronplan.specs.declared.span.Span.{Span}
use Rattle.cronplan.specs.declared.start.JobStart.{JobStart}
use Rattle.cronplan_forms.specs.declared.job.Job.{Job}
use Rattle.cronplan_forms.specs.declared.timed.TimedMoment.{TimedMoment}
use Rattle.cronplan_forms.specs.declared.timed.TimedWindow.{TimedWindow}
use Rattle.cronplan_forms.specs.declared.week.WeekDay.{WeekDay}
use Rattle.cronplan_page.specs.declared.markup.Line.{Line}
use Rattle.cronplan_page.specs.declared.timed.TimedChange.{TimedChange}
use Rattle.cronplan_page.specs.declared.timed.TimedStart.{TimedStart}
use Rattle.cronplan_page.specs.ClockChanges.{change_line}
use Rattle.cronplan_page.specs.Fullest.{name_at, moment_line}
use Rattle.cronplan_page.specs.Markup.{line_text}
use Rattle.cronplan_page.specs.PlanDays.{start_on, day_text}
use Rattle.cronplan_page.specs.PlanJobs.{frequent_line, next_line}
use Rattle.cronplan_page.specs.Quiet.{window_line}
use Rattle.cronplan_page.specs.TimeLines.{mark_of, change_mark}
use Rattle.cronplan_page.specs.Weeks.{row_text, cell_text}

step : {A : Type 0} (f : A → List ℕ) (xs : List A) (i : ℕ) (x : A) → i < length xs → x ≡ get_or xs i x
    → flat_map f (drop i xs) ≡ f x ++ flat_map f (drop (i + 1) xs)
step f xs i x h is = at_drop_more (flat_map f) xs i x h ∙ ap (λ y. f y ++ flat_map f (drop (i + 1) xs)) (sym is)

pub lines_step : (xs : List Line) (i : ℕ) (x : Line) → i < length xs → x ≡ get_or xs i x
    → flat_map line_text (drop i xs) ≡ line_text x ++ flat_map line_text (drop (i + 1) xs)
lines_step xs i x h is = step line_text xs i x h is

pub windows_step : (xs : List TimedWindow) (i : ℕ) (x : TimedWindow) → i < length xs → x ≡ get_or xs i x
    → flat_map window_line (drop i xs) ≡ window_line x ++ flat_map window_line (drop (i + 1) xs)
windows_step xs i x h is = step window_line xs i x h is

pub moments_step : (jobs : List Job) (starts : List JobStart) (xs : List TimedMoment) (i : ℕ) (x : TimedMoment) → i < length xs → x ≡ get_or xs i x
    → flat_map (moment_line jobs starts) (drop i xs) ≡ moment_line jobs starts x ++ flat_map (moment_line jobs starts) (drop (i + 1) xs)
moments_step jobs starts xs i x h is = step (moment_line jobs starts) xs i x h is

pub names_step : (jobs : List Job) (second : ℤ) (xs : List JobStart) (i : ℕ) (x : JobStart) → i < length xs → x ≡ get_or xs i x
    → flat_map (name_at jobs second) (drop i xs) ≡ name_at jobs second x ++ flat_map (name_at jobs second) (drop (i + 1) xs)
names_step jobs second xs i x h is = step (name_at jobs second) xs i x h is

pub rows_step : (xs : List WeekDay) (i : ℕ) (x : WeekDay) → i < length xs → x ≡ get_or xs i x
    → flat_map row_text (drop i xs) ≡ row_text x ++ flat_map row_text (drop (i + 1) xs)
rows_step xs i x h is = step row_text xs i x h is

pub cells_step : (xs : List HourCell) (i : ℕ) (x : HourCell) → i < length xs → x ≡ get_or xs i x
    → flat_map cell_text (drop i xs) ≡ cell_text x ++ flat_map cell_text (drop (i + 1) xs)
cells_step xs i x h is = step cell_text xs i x h is

pub changes_step : (xs : List TimedChange) (i : ℕ) (x : TimedChange) → i < length xs → x ≡ get_or xs i x
    → flat_map change_line (drop i xs) ≡ change_line x ++ flat_map change_line (drop (i + 1) xs)
changes_step xs i x h is = step change_line xs i x h is

pub marks_step : (span : Span) (place : ℕ) (xs : List TimedStart) (i : ℕ) (x : TimedStart) → i < length xs → x ≡ get_or xs i x
    → flat_map (mark_of span place) (drop i xs) ≡ mark_of span place x ++ flat_map (mark_of span place) (drop (i + 1) xs)
marks_step span place xs i x h is = step (mark_of span place) xs i x h is

pub change_marks_step : (span : Span) (xs : List TimedChange) (i : ℕ) (x : TimedChange) → i < length xs → x ≡ get_or xs i x
    → flat_map (change_mark span) (drop i xs) ≡ change_mark span x ++ flat_map (change_mark span) (drop (i + 1) xs)
change_marks_step span xs i x h is = step (change_mark span) xs i x h is

pub frequent_step : (jobs : List Job) (xs : List Frequent) (i : ℕ) (x : Frequent) → i < length xs → x ≡ get_or xs i x
    → flat_map (frequent_line jobs) (drop i xs) ≡ frequent_line jobs x ++ flat_map (frequent_line jobs) (drop (i + 1) xs)
frequent_step jobs xs i x h is = step (frequent_line jobs) xs i x h is

pub next_step : (xs : List TimedStart) (i : ℕ) (x : TimedStart) → i < length xs → x ≡ get_or xs i x
    → flat_map next_line (drop i xs) ≡ next_line x ++ flat_map next_line (drop (i + 1) xs)
next_step xs i x h is = step next_line xs i x h is

pub days_step : (jobs : List Job) (starts : List TimedStart) (xs : List WeekDay) (i : ℕ) (x : WeekDay) → i < length xs → x ≡ get_or xs i x
    → flat_map (day_text jobs starts) (drop i xs) ≡ day_text jobs starts x ++ flat_map (day_text jobs starts) (drop (i + 1) xs)
days_step jobs starts xs i x h is = step (day_text jobs starts) xs i x h is

pub starts_on_step : (jobs : List Job) (date : ℤ) (xs : List TimedStart) (i : ℕ) (x : TimedStart) → i < length xs → x ≡ get_or xs i x
    → flat_map (start_on jobs date) (drop i xs) ≡ start_on jobs date x ++ flat_map (start_on jobs date) (drop (i + 1) xs)
starts_on_step jobs date xs i x h is = step (start_on jobs date) xs i x h is
