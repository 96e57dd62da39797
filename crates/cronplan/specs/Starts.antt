-- The starts of a plan in one list. Source: this crate's documentation.
use Rattle.std.specs.Prelude.{◌≡◌, ℕ, ℤ, int_lt, if◌then◌else◌, List, map, filter, slice_get, Option, Some, None, option_map}
use Rattle.std.specs.declared.cmp.Ordering.{Ordering}
use Rattle.std.specs.Ordering.{nat_cmp, int_cmp, ordering_then}
use Rattle.std.specs.List.Sorted.{IsPermutation, IsSorted}
use Rattle.cronplan.specs.declared.span.Span.{Span}
use Rattle.cronplan.specs.declared.start.JobStart.{JobStart}

-- the seconds of starts
abbrev pub seconds_of : List JobStart → List ℤ
seconds_of starts = map (λ s. s.second) starts

-- the order of starts: by their second, and at one second by the places of their jobs; what is left decides between starts of one job at one
-- second, which no plan has
abbrev pub start_cmp : JobStart → JobStart → Ordering
start_cmp a b = ordering_then (int_cmp a.second b.second) (ordering_then (nat_cmp a.job b.job) (ordering_then (nat_cmp a.count b.count) (int_cmp a.wall b.wall)))

-- the second of the start at a place
abbrev pub second_at : List JobStart → ℕ → Option ℤ
second_at starts k = option_map (λ s. s.second) (slice_get starts k)

-- the earlier of two seconds, of which the second one may be none
abbrev pub earlier_of : ℤ → Option ℤ → ℤ
earlier_of end None = end
earlier_of end (Some other) = if int_lt other end then other else end

-- so many starts are kept of a plan at most
abbrev pub most_starts : ℕ
most_starts = 100_000

-- these starts in order, as far as they lie before an end, each as often as it is there; the end is a given one, or the second of the first
-- start too many
pub record IsMerged (all : List JobStart) (end : ℤ) (starts : List JobStart) (kept : ℤ) : Type 0 where
  pub ordered : List JobStart
  pub same : IsPermutation all ordered
  pub order : IsSorted start_cmp ordered
  pub kept_is : kept ≡ earlier_of end (second_at ordered most_starts)
  pub starts_are : starts ≡ filter (λ s. int_lt s.second kept) ordered

-- a plan of these starts from a second on up to an end
pub record Merges (all : List JobStart) (first end : ℤ) (starts : List JobStart) (kept : Span) : Type 0 where
  pub from : kept.first ≡ first
  pub merged : IsMerged all end starts kept.end
