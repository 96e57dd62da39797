-- The windows of a span in which nothing starts. Source: this crate's documentation.
use Rattle.std.specs.Prelude.{◌≡◌, ◌≢◌, ℕ, ℤ, pos, unsigned_abs, ◌-ℤ◌, ◌<ℤ◌, ◌≤ℤ◌, List}
use Rattle.std.specs.List.{All, AllPairs, Contains}
use Rattle.std.specs.Ordering.{int_cmp, nat_cmp, ordering_then}
use Rattle.std.specs.declared.cmp.Ordering.{Ordering}
use Rattle.cronplan.specs.declared.span.Span.{Span}
use Rattle.cronplan.specs.declared.start.JobStart.{JobStart}
use Rattle.cronplan.specs.declared.windows.Bound.{Bound}
use Rattle.cronplan.specs.declared.windows.Bound.TheVariants as bounds
use Rattle.cronplan.specs.declared.windows.Window.{Window}
use Rattle.cronplan.specs.Starts.{seconds_of}

-- how many seconds it is from one side of a window to the other
abbrev pub seconds_in : Window → ℕ
seconds_in w = unsigned_abs (w.until.second -ℤ w.from.second)

-- no start lies between two seconds
abbrev pub NoneBetween : List JobStart → ℤ → ℤ → Type 0
NoneBetween starts from until = (i : ℤ) → from <ℤ i → i <ℤ until → ¬ Contains (seconds_of starts) i

-- what bounds a window where it begins: a start, or the begin of the span, at which none lies
abbrev pub Begins : List JobStart → Span → Bound → ℤ → Type 0
Begins starts span bounds.Start from = Contains (seconds_of starts) from
Begins starts span bounds.Span from = (from ≡ span.first) × ¬ Contains (seconds_of starts) from

-- what bounds it where it ends: a start, or the end of the span, which is no second of it
abbrev pub Ends : List JobStart → Span → Bound → ℤ → Type 0
Ends starts span bounds.Start until = Contains (seconds_of starts) until
Ends starts span bounds.Span until = until ≡ span.end

-- a window with so many seconds at least: no start lies in it, and it can't be made longer within the span
pub record IsWindow (starts : List JobStart) (span : Span) (least : ℕ) (w : Window) : Type 0 where
  pub none : NoneBetween starts w.from.second w.until.second
  pub begins : Begins starts span w.from.bound w.from.second
  pub ends : Ends starts span w.until.bound w.until.second
  pub some : w.from.second <ℤ w.until.second
  pub long : pos least ≤ℤ (w.until.second -ℤ w.from.second)

-- the windows of a span with so many seconds at least: each is one, no two begin at one second, and every stretch of the span without a start that
-- is so long lies in one
pub record AreWindows (starts : List JobStart) (span : Span) (least : ℕ) (windows : List Window) : Type 0 where
  pub each : All (IsWindow starts span least) windows
  pub once : AllPairs (λ v w. v.from.second ≢ w.from.second) windows
  pub complete : (a b : ℤ) → span.first ≤ℤ a → a <ℤ b → b ≤ℤ span.end → pos least ≤ℤ (b -ℤ a) → NoneBetween starts a b
      → (w : Window) × Contains windows w × (w.from.second ≤ℤ a) × (b ≤ℤ w.until.second)

-- the order of windows: the longer one first, and of equal ones the earlier
abbrev pub longest_cmp : Window → Window → Ordering
longest_cmp v w = ordering_then (nat_cmp (seconds_in w) (seconds_in v)) (int_cmp v.from.second w.from.second)
