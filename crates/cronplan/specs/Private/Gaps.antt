-- The windows between starts one by one.
use Rattle.std.specs.Prelude.{ℕ, Bool, ◌&&◌, int_lt, nat_le, unsigned_abs, ◌-ℤ◌, if◌then◌else◌, List, [], ◌∷◌, ◌++◌}
use Rattle.cronplan.specs.declared.span.Span.{Span}
use Rattle.cronplan.specs.declared.start.JobStart.{JobStart}
use Rattle.cronplan.specs.declared.windows.Bound.TheVariants as bounds
use Rattle.cronplan.specs.declared.windows.Edge.{Edge}
use Rattle.cronplan.specs.declared.windows.Window.{Window}

-- a start as the side of a window
abbrev pub edge_of : JobStart → Edge
edge_of s = record { second = s.second; bound = bounds.Start }

-- the begin of a span as one, and its end
abbrev pub span_begin : Span → Edge
span_begin span = record { second = span.first; bound = bounds.Span }

abbrev pub span_end : Span → Edge
span_end span = record { second = span.end; bound = bounds.Span }

-- a window has a second, and so many at least
abbrev pub is_long : ℕ → Window → Bool
is_long least w = int_lt w.from.second w.until.second && nat_le least (unsigned_abs (w.until.second -ℤ w.from.second))

-- that window, if it is so long
abbrev pub gap : ℕ → Window → List Window
gap least w = if is_long least w then w ∷ [] else []

-- from one side on, up to each of these starts and to the end
abbrev pub gaps : ℕ → Edge → Edge → List JobStart → List Window
gaps least end from [] = gap least (record { from = from; until = end })
gaps least end from (s ∷ ss) = gap least (record { from = from; until = edge_of s }) ++ gaps least end (edge_of s) ss
