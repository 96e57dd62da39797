-- The parts of a picture of text, one after the other.
use Rattle.std.proofs.Common.{◌≡◌, ◌∙◌, ◌+◌, ◌<◌, ℕ, suc, List, ◌++◌, length, get_or, drop, ap, sym, arith}
use Rattle.std.specs.List.{flat_map}
use Rattle.std.specs.Prelude.{codes}
use Rattle.std.proofs.lemmas.List.{at_drop_more}
use Rattle.cronplan.specs.declared.changes.ClockChange.{ClockChange}
use Rattle.cronplan.specs.declared.days.HourCell.{HourCell}
use Rattle.cronplan.specs.declared.frequent.Frequent.{Frequent}
use Rattle.cronplan_forms.specs.declared.answers.busy.ShownMoment.{ShownMoment}
use Rattle.cronplan_forms.specs.declared.job.Job.{Job}
use Rattle.cronplan_forms.specs.declared.view.Dropped.{Dropped}
use Rattle.cronplan_forms.specs.declared.view.View.{View}
use Rattle.cronplan_forms.specs.declared.week.changes.ShownChange.{ShownChange}
use Rattle.cronplan_forms.specs.declared.week.Signs.{Signs}
use Rattle.cronplan_forms.specs.declared.week.WeekDay.{WeekDay}
use Rattle.cronplan_forms.specs.declared.answers.together.ShownSet.{ShownSet}
use Rattle.cronplan_forms.specs.Answers.{moment_line, hour_line, hour_lines, left_out_line, added_name, set_line}
use Rattle.cronplan_forms.specs.Weeks.{sign_of, row_text, step_text, change_text, dropped_at}

-- one element more
step : {X : Type 0} (f : X → List ℕ) (xs : List X) (i : ℕ) (x : X) → i < length xs → x ≡ get_or xs i x
    → flat_map f (drop i xs) ≡ f x ++ flat_map f (drop (i + 1) xs)
step {X} f xs i x h is = at_drop_more (flat_map f) xs i x h ∙ ap (λ (y : X). f y ++ flat_map f (drop (i + 1) xs)) (sym is)

pub cells_step : (s : Signs) (xs : List HourCell) (i : ℕ) (x : HourCell) → i < length xs → x ≡ get_or xs i x
    → flat_map (λ cell. sign_of s cell ++ codes " ") (drop i xs) ≡ (sign_of s x ++ codes " ") ++ flat_map (λ cell. sign_of s cell ++ codes " ") (drop (i + 1) xs)
cells_step s xs i x h is = step (λ cell. sign_of s cell ++ codes " ") xs i x h is

pub rows_step : (s : Signs) (xs : List WeekDay) (i : ℕ) (x : WeekDay) → i < length xs → x ≡ get_or xs i x
    → flat_map (row_text s) (drop i xs) ≡ row_text s x ++ flat_map (row_text s) (drop (i + 1) xs)
rows_step s xs i x h is = step (row_text s) xs i x h is

pub steps_step : (s : Signs) (xs : List ℕ) (i : ℕ) (x : ℕ) → i < length xs → x ≡ get_or xs i x
    → flat_map (step_text s) (drop i xs) ≡ step_text s x ++ flat_map (step_text s) (drop (i + 1) xs)
steps_step s xs i x h is = step (step_text s) xs i x h is

pub changes_step : (v : View) (xs : List ShownChange) (i : ℕ) (x : ShownChange) → i < length xs → x ≡ get_or xs i x
    → flat_map (change_text v) (drop i xs) ≡ change_text v x ++ flat_map (change_text v) (drop (i + 1) xs)
changes_step v xs i x h is = step (change_text v) xs i x h is

pub dropped_step : (jobs : List Job) (c : ClockChange) (xs : List Dropped) (i : ℕ) (x : Dropped) → i < length xs → x ≡ get_or xs i x
    → flat_map (dropped_at jobs c) (drop i xs) ≡ dropped_at jobs c x ++ flat_map (dropped_at jobs c) (drop (i + 1) xs)
dropped_step jobs c xs i x h is = step (dropped_at jobs c) xs i x h is

-- moments, hours and jobs that are left out, as lines
pub moments_step : (xs : List ShownMoment) (i : ℕ) (x : ShownMoment) → i < length xs → x ≡ get_or xs i x
    → flat_map moment_line (drop i xs) ≡ moment_line x ++ flat_map moment_line (drop (i + 1) xs)
moments_step xs i x h is = step moment_line xs i x h is

pub frequent_step : (jobs : List Job) (xs : List Frequent) (i : ℕ) (x : Frequent) → i < length xs → x ≡ get_or xs i x
    → flat_map (left_out_line jobs) (drop i xs) ≡ left_out_line jobs x ++ flat_map (left_out_line jobs) (drop (i + 1) xs)
frequent_step jobs xs i x h is = step (left_out_line jobs) xs i x h is

pub hours_step : (xs : List ℕ) (i x : ℕ) → i < length xs → x ≡ get_or xs i x
    → hour_lines i (drop i xs) ≡ hour_line i x ++ hour_lines (i + 1) (drop (i + 1) xs)
hours_step xs i x h is =
    let next : suc i ≡ i + 1 = omega arith in
    at_drop_more (hour_lines i) xs i x h
    ∙ ap (λ (y : ℕ). hour_line i y ++ hour_lines (suc i) (drop (i + 1) xs)) (sym is)
    ∙ ap (λ (n : ℕ). hour_line i x ++ hour_lines n (drop (i + 1) xs)) next

pub sets_step : (jobs : List Job) (xs : List ShownSet) (i : ℕ) (x : ShownSet) → i < length xs → x ≡ get_or xs i x
    → flat_map (set_line jobs) (drop i xs) ≡ set_line jobs x ++ flat_map (set_line jobs) (drop (i + 1) xs)
sets_step jobs xs i x h is = step (set_line jobs) xs i x h is

pub names_step : (jobs : List Job) (xs : List ℕ) (i x : ℕ) → i < length xs → x ≡ get_or xs i x
    → flat_map (added_name jobs) (drop i xs) ≡ added_name jobs x ++ flat_map (added_name jobs) (drop (i + 1) xs)
names_step jobs xs i x h is = step (added_name jobs) xs i x h is
