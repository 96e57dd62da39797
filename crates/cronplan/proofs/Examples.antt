-- Worked rows, computed from the definitions: a day from 00:00 on to 24:00, with starts at 02:00 of two jobs, and at 04:30.
use Rattle.std.proofs.Common.{◌≡◌, ℕ, ℤ, pos, true, false, List, [], ◌∷◌, refl, arith}
use Rattle.cronplan.specs.declared.counts.Unit.TheVariants as units
use Rattle.cronplan.specs.declared.moments.Moment.{Moment}
use Rattle.std.specs.declared.cmp.Ordering.TheVariants.{Less, Greater}
use Rattle.cronplan.specs.declared.span.Span.{Span}
use Rattle.cronplan.specs.declared.start.JobStart.{JobStart}
use Rattle.cronplan.specs.declared.windows.Bound.TheVariants as bounds
use Rattle.cronplan.specs.declared.windows.Edge.{Edge}
use Rattle.cronplan.specs.declared.windows.Window.{Window}
use Rattle.cronplan.specs.Counts.{starts_at}
use Rattle.cronplan.specs.Moments.{at_second, fullest_cmp}
use Rattle.cronplan.specs.Private.Gaps.{gaps}
use Rattle.cronplan.specs.Spans.{is_span}
use Rattle.cronplan.specs.Starts.{second_at, earlier_of}
use Rattle.cronplan.specs.Windows.{AreWindows, longest_cmp, seconds_in}

-- a start of a job so many times, on a clock that shows UTC
abbrev start : ℕ → ℕ → ℕ → JobStart
start second job count = record { second = pos second; job = job; count = count; wall = pos second }

abbrev day : List JobStart
day = start 7_200 0 1 ∷ start 7_200 1 2 ∷ start 16_200 0 1 ∷ []

abbrev side : ℤ → Edge
side i = record { second = i; bound = bounds.Span }

abbrev at : ℤ → Edge
at i = record { second = i; bound = bounds.Start }

-- of two hours or more: up to 02:00, where it may be longer; from 02:00 to 04:30; from there on, where it may be longer. Between the two starts
-- at 02:00 there is none
windows : gaps 7_200 (side (pos 86_400)) (side (pos 0)) day
    ≡ record { from = side (pos 0); until = at (pos 7_200) } ∷ record { from = at (pos 7_200); until = at (pos 16_200) } ∷ record { from = at (pos 16_200); until = side (pos 86_400) } ∷ []
windows = refl

-- of more than two and a half hours: the last one alone; it has 19 and a half
long_windows : (gaps 9_001 (side (pos 86_400)) (side (pos 0)) day ≡ record { from = at (pos 16_200); until = side (pos 86_400) } ∷ [])
    × (seconds_in (record { from = at (pos 16_200); until = side (pos 86_400) }) ≡ 70_200)
long_windows = (refl, refl)

-- the longer window first, and of equal ones the earlier
abbrev between : ℕ → ℕ → Window
between from until = record { from = at (pos from); until = at (pos until) }

longest_first : (longest_cmp (between 7_200 16_200) (between 0 7_200) ≡ Less) × (longest_cmp (between 7_200 14_400) (between 0 7_200) ≡ Greater)
longest_first = (refl, refl)

-- a window that is told twice is no answer
not_twice : (starts : List JobStart) (span : Span) (least : ℕ) (w : Window) → ¬ AreWindows starts span least (w ∷ w ∷ [])
not_twice starts span least w are = are.once 0 1 w (omega arith) (omega arith) refl

-- a start at the first second of the span leaves no window before it
begins_with_a_start : gaps 1 (side (pos 60)) (side (pos 0)) (start 0 0 1 ∷ []) ≡ record { from = at (pos 0); until = side (pos 60) } ∷ []
begins_with_a_start = refl

-- three starts at 02:00, one at 04:30; four on the day; none at 03:00
counts : (starts_at units.Second (pos 7_200) day ≡ 3) × (starts_at units.HourOfDay (pos 4) day ≡ 1) × (starts_at units.Day (pos 0) day ≡ 4) × (starts_at units.Hour (pos 3) day ≡ 0)
counts = (refl, refl, refl, refl)

-- a start that comes no time is counted at no second
zero : starts_at units.Second (pos 7_200) (start 7_200 0 0 ∷ []) ≡ 0
zero = refl

-- the starts at 02:00; the moment there before the one at 04:30, which has fewer, and of two equal ones the earlier first
then : (at_second (pos 7_200) day ≡ start 7_200 0 1 ∷ start 7_200 1 2 ∷ []) × (at_second (pos 7_201) day ≡ [])
then = (refl, refl)

abbrev moment : ℕ → ℕ → Moment
moment second starts = record { second = pos second; wall = pos second; starts = starts }

fullest_first : (fullest_cmp (moment 7_200 3) (moment 16_200 1) ≡ Less) × (fullest_cmp (moment 16_200 3) (moment 7_200 3) ≡ Greater)
fullest_first = (refl, refl)

-- a span of one second, and one that ends before it begins
spans : (is_span (pos 0) (pos 1) ≡ true) × (is_span (pos 1) (pos 0) ≡ false)
spans = (refl, refl)

-- of two starts at most the third is too many: the span ends at it, or earlier
cut : (earlier_of (pos 86_400) (second_at day 2) ≡ pos 16_200) × (earlier_of (pos 86_400) (second_at day 3) ≡ pos 86_400)
cut = (refl, refl)
