-- Windows that come again from day to day, in one line. Source: this crate's documentation of `quiet_text`.
use Rattle.std.specs.Prelude.{◌≡◌, ⊤, true, ◌==◌, ◌&&◌, ◌||◌, ℕ, ℤ, pos, ◌+ℤ◌, not, Bool, List, [], ◌∷◌, ◌++◌, codes, length, ◌-◌, slice_get, Option, Some, None, if◌then◌else◌}
use Rattle.std.specs.List.{AllPairs, flat_map}
use Rattle.std.specs.List.Sorted.{IsPermutation}
use Rattle.std.specs.Ordering.{int_cmp, int_eq, nat_cmp, ordering_then}
use Rattle.std.specs.declared.cmp.Ordering.{Ordering}
use Rattle.std.specs.declared.cmp.Ordering.TheVariants.{Less}
use Rattle.croner_base.specs.Civil.{wall_second, weekday_index}
use Rattle.croner_base.specs.CivilText.{date_text, time_text}
use Rattle.croner_base.specs.Zone.{Zone}
use Rattle.cronplan.specs.declared.plan.Plan.{Plan}
use Rattle.cronplan.specs.Windows.{seconds_in}
use Rattle.cronplan_forms.specs.declared.answers.quiet.ShownWindow.{ShownWindow}
use Rattle.cronplan_forms.specs.declared.clock.ClockTime.{ClockTime}
use Rattle.cronplan_forms.specs.Answers.{IsQuiet, is_at_edge, window_line, quiet_head, silence_text}
use Rattle.cronplan_forms.specs.Clocks.{ahead_text, lasting_text, second_of_day, weekday_text}
use Rattle.cronplan_forms.specs.DateNames.{date_of_wall}

-- ---- what a clock shows

-- the date, counted from 1970-01-01
abbrev pub shown_date : ClockTime → ℤ
shown_date t = date_of_wall (wall_second t.civil)

-- the second of the day
abbrev pub shown_second : ClockTime → ℕ
shown_second t = second_of_day (wall_second t.civil)

-- the next date
abbrev pub is_next_date : ClockTime → ClockTime → Bool
is_next_date t u = int_eq (shown_date u) (shown_date t +ℤ pos 1)

-- the same time on the next date, and as far ahead of UTC
abbrev pub is_day_later : ClockTime → ClockTime → Bool
is_day_later t u = (shown_second t == shown_second u) && int_eq t.ahead.seconds u.ahead.seconds && is_next_date t u

-- ---- the order

-- the longest window first, of equal ones the one that begins earlier in the day, then the earlier
abbrev pub told_cmp : ShownWindow → ShownWindow → Ordering
told_cmp s t =
    ordering_then (ordering_then (nat_cmp (seconds_in t.window) (seconds_in s.window)) (nat_cmp (shown_second s.from) (shown_second t.from)))
    (int_cmp s.window.from.second t.window.from.second)

-- the windows of a plan that are so long at least, each once, in that order
pub record AreTold (z : Zone) (p : Plan) (least : ℕ) (told : List ShownWindow) : Type 0 where
  pub shown : List ShownWindow
  pub are_quiet : IsQuiet z p least shown
  pub same : IsPermutation shown told
  pub order : AllPairs (λ s t. told_cmp s t ≡ Less) told

-- ---- runs

-- a window ends on the date on which it begins; it ends on the next one
abbrev pub ends_on_date : ShownWindow → Bool
ends_on_date s = int_eq (shown_date s.until) (shown_date s.from)

abbrev pub ends_next_day : ShownWindow → Bool
ends_next_day s = is_next_date s.from s.until

-- it may stand in a line with others: it is no longer than the plan has it, its clock isn't put forward or back in it, and it ends on its date or
-- on the next
abbrev pub is_regular : ShownWindow → Bool
is_regular s = not (is_at_edge s.window) && int_eq s.from.ahead.seconds s.until.ahead.seconds && (ends_on_date s || ends_next_day s)

-- the second one is the first one a day later
abbrev pub comes_again : ShownWindow → ShownWindow → Bool
comes_again s t =
    is_regular s && is_regular t && (seconds_in s.window == seconds_in t.window) && is_day_later s.from t.from && is_day_later s.until t.until

-- a window before runs: it begins the first of these, where it comes again there, or is one by itself
abbrev pub before_runs : ShownWindow → List (List ShownWindow) → List (List ShownWindow)
before_runs s [] = (s ∷ []) ∷ []
before_runs s ([] ∷ runs) = (s ∷ []) ∷ runs
before_runs s ((t ∷ ts) ∷ runs) = if comes_again s t then (s ∷ t ∷ ts) ∷ runs else (s ∷ []) ∷ (t ∷ ts) ∷ runs

-- windows in their order, cut before each that isn't the one before it a day later
abbrev pub window_runs : List ShownWindow → List (List ShownWindow)
window_runs [] = []
window_runs (s ∷ ss) = before_runs s (window_runs ss)

-- windows that a line may tell of: there is one, and each is the one before it a day later
abbrev pub IsRun : List ShownWindow → Type 0
IsRun [] = ⊥
IsRun (s ∷ []) = ⊤
IsRun (s ∷ t ∷ ts) = (comes_again s t ≡ true) × IsRun (t ∷ ts)

-- ---- lines

-- a date with its weekday; a time
abbrev pub shown_date_text : ClockTime → List ℕ
shown_date_text t = weekday_text (weekday_index t.weekday) ++ (32 ∷ date_text t.civil.date.year t.civil.date.month t.civil.date.day)

abbrev pub shown_time_text : ClockTime → List ℕ
shown_time_text t = time_text t.civil.time.hour t.civil.time.minute t.civil.time.second

-- what stands before the time at which a window ends
abbrev pub day_text : ShownWindow → List ℕ
day_text s = if ends_on_date s then [] else codes "next day "

-- from when to when a window is on its date, and how long
abbrev pub day_times_text : ShownWindow → List ℕ
day_times_text s =
    shown_time_text s.from ++ (codes " to " ++ (day_text s ++ (shown_time_text s.until ++ (32 ∷ (ahead_text s.until.ahead.seconds
    ++ (codes "  " ++ lasting_text (seconds_in s.window)))))))

-- windows that are as the first one on each date up to that of the last one
unfoldable pub days_line : ShownWindow → ShownWindow → List ℕ
days_line s last =
    codes "  " ++ (shown_date_text s.from ++ (codes " to " ++ (shown_date_text last.from ++ (codes ", each day " ++ (day_times_text s ++ codes "\n")))))

-- a window as a line, or it and those after it up to the last one
abbrev pub line_to : ShownWindow → Option ShownWindow → List ℕ
line_to s None = window_line s
line_to s (Some last) = days_line s last

-- a run as a line
abbrev pub run_line : List ShownWindow → List ℕ
run_line [] = []
run_line (s ∷ ss) = line_to s (slice_get ss (length ss - 1))

unfoldable pub run_lines : List (List ShownWindow) → List ℕ
run_lines runs = flat_map run_line runs

-- what is told of the windows that are so long at least
abbrev pub quiet_text : Bool → ℕ → List ShownWindow → List ℕ
quiet_text is_whole least told = quiet_head (length told == 0) is_whole least ++ run_lines (window_runs told)

-- so many seconds a window has at least that is told below a picture
abbrev pub least_longest : ℕ
least_longest = 3_600

-- so many lines tell of the longest of these, at most
abbrev pub most_longest : ℕ
most_longest = 5

-- the lines of runs, and what stands in front of them
unfoldable pub longest_head : Bool → List ℕ
longest_head is_whole = codes "longest windows in which " ++ (silence_text is_whole ++ codes ":\n")

unfoldable pub some_longest : Bool → List (List ShownWindow) → List ℕ
some_longest is_whole runs = longest_head is_whole ++ run_lines runs

-- the same; nothing where there is none
abbrev pub longest_text : Bool → List (List ShownWindow) → List ℕ
longest_text is_whole [] = []
longest_text is_whole (run ∷ runs) = some_longest is_whole (run ∷ runs)
