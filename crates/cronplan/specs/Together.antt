-- The sets of jobs that start together. Source: this crate's documentation.
use Rattle.std.specs.Prelude.{◌≡◌, ◌≢◌, ◌<◌, ℕ, ℤ, Bool, nat_lt, nat_eq, List, length, map, filter, slice_get, Some}
use Rattle.std.specs.Cmp.Lexicographic.{pointwise}
use Rattle.std.specs.List.{All, AllPairs, Contains, dedup}
use Rattle.std.specs.List.Sorted.{IsSorted, IsStrictlyIncreasing}
use Rattle.std.specs.Ordering.{nat_cmp, int_cmp, ordering_then}
use Rattle.std.specs.declared.cmp.Ordering.{Ordering}
use Rattle.cronplan.specs.declared.moments.Moment.{Moment}
use Rattle.cronplan.specs.declared.start.JobStart.{JobStart}
use Rattle.cronplan.specs.declared.together.Together.{Together}
use Rattle.cronplan.specs.Moments.{AreMoments, at_second}

-- the places of the jobs of starts; of neighbours with one job it stands once
abbrev pub jobs_of : List JobStart → List ℕ
jobs_of starts = dedup nat_eq (map (λ s. s.job) starts)

-- the jobs that start at a second
abbrev pub jobs_at : ℤ → List JobStart → List ℕ
jobs_at i starts = jobs_of (at_second i starts)

-- two or more jobs start at a moment
abbrev pub has_several : List JobStart → Moment → Bool
has_several starts m = nat_lt 1 (length (jobs_at m.second starts))

-- of moments those at which just these jobs start
abbrev pub moments_with : List JobStart → List ℕ → List Moment → List Moment
moments_with starts jobs moments = filter (λ m. pointwise nat_eq (jobs_at m.second starts) jobs) moments

-- a set of two or more jobs, each once: with how many moments there are at which just these start, and the first of those
pub record IsTogether (starts : List JobStart) (moments : List Moment) (t : Together) : Type 0 where
  pub several : 1 < length t.jobs.items
  pub rise : IsStrictlyIncreasing t.jobs.items
  pub count : t.moments ≡ length (moments_with starts t.jobs.items moments)
  pub first : slice_get (moments_with starts t.jobs.items moments) 0 ≡ Some t.first

-- the order of such sets: the one with more moments first, and of equal ones the one whose first moment is earlier
abbrev pub together_cmp : Together → Together → Ordering
together_cmp a b = ordering_then (nat_cmp b.moments a.moments) (int_cmp a.first.second b.first.second)

-- the sets of two or more jobs that start at one moment of these starts: no set twice, none left out; the one with more moments first, and of
-- equal ones the one whose first moment is earlier
pub record AreTogether (starts : List JobStart) (sets : List Together) : Type 0 where
  pub moments : List Moment
  pub are_moments : AreMoments starts moments
  pub each : All (IsTogether starts moments) sets
  pub once : AllPairs (λ a b. a.jobs.items ≢ b.jobs.items) sets
  pub complete : All (λ m. 1 < length (jobs_at m.second starts) → Contains (map (λ t. t.jobs.items) sets) (jobs_at m.second starts)) moments
  pub order : IsSorted together_cmp sets
