-- The moments of a plan: the seconds at which jobs start. Source: this crate's documentation.
use Rattle.std.specs.Prelude.{◌≡◌, ℕ, ℤ, ◌<ℤ◌, List, map, filter, take}
use Rattle.std.specs.List.{All, AllPairs, Contains}
use Rattle.std.specs.List.Sorted.{IsPermutation, IsSorted}
use Rattle.std.specs.Ordering.{nat_cmp, int_cmp, int_eq, ordering_then}
use Rattle.std.specs.declared.cmp.Ordering.{Ordering}
use Rattle.cronplan.specs.declared.counts.Unit.TheVariants as units
use Rattle.cronplan.specs.declared.moments.Moment.{Moment}
use Rattle.cronplan.specs.declared.start.JobStart.{JobStart}
use Rattle.cronplan.specs.Counts.{starts_at}

-- the starts at a second
abbrev pub at_second : ℤ → List JobStart → List JobStart
at_second i starts = filter (λ s. int_eq s.second i) starts

-- the seconds of moments
abbrev pub moment_seconds : List Moment → List ℤ
moment_seconds moments = map (λ m. m.second) moments

-- a moment of starts: the second of one of them, what the clock shows at that one, and how many starts there are at this second
pub record IsMoment (starts : List JobStart) (m : Moment) : Type 0 where
  pub start : JobStart
  pub has : Contains starts start
  pub second_is : m.second ≡ start.second
  pub wall_is : m.wall ≡ start.wall
  pub starts_are : m.starts ≡ starts_at units.Second start.second starts

-- the moments of starts, each once, the earliest first
pub record AreMoments (starts : List JobStart) (moments : List Moment) : Type 0 where
  pub each : All (IsMoment starts) moments
  pub rise : AllPairs (λ i j. i <ℤ j) (moment_seconds moments)
  pub complete : All (λ s. Contains (moment_seconds moments) s.second) starts

-- the order of moments: the one with more starts first, and of equal ones the earlier
abbrev pub fullest_cmp : Moment → Moment → Ordering
fullest_cmp a b = ordering_then (nat_cmp b.starts a.starts) (int_cmp a.second b.second)

-- the fullest moments of starts, so many at most: the first ones of all in that order
pub record AreFullest (starts : List JobStart) (most : ℕ) (fullest : List Moment) : Type 0 where
  pub moments : List Moment
  pub are_moments : AreMoments starts moments
  pub ordered : List Moment
  pub same : IsPermutation moments ordered
  pub order : IsSorted fullest_cmp ordered
  pub first : fullest ≡ take most ordered
