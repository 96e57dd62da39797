-- The plan of jobs: which of them it shows, and which it names as too frequent. Source: this crate's documentation.
use Rattle.std.specs.Prelude.{◌≡◌, ◌↔◌, ℕ, suc, ℤ, Bool, IsTrue, if◌then◌else◌, List, [], ◌∷◌, fold, Option, Some, None}
use Rattle.std.specs.List.{flat_map}
use Rattle.croner_base.specs.Zone.{Zone}
use Rattle.cronplan.specs.declared.frequent.Frequent.{Frequent}
use Rattle.cronplan_jobs.specs.declared.listing.Schedule.{Schedule}
use Rattle.cronplan.specs.declared.span.Span.{Span}
use Rattle.cronplan.specs.declared.start.JobStart.{JobStart}
use Rattle.cronplan.specs.Counts.{count_of, IsFrequent}
use Rattle.cronplan_jobs.specs.Listed.{ListsJob}
use Rattle.cronplan.specs.Starts.{earlier_of, Merges}

-- of a job: its place, its starts in the span, up to where none is left out of them, and whether it is too frequent to be shown
pub record Seen : Type 0 where
  pub place : ℕ
  pub starts : List JobStart
  pub end : ℤ
  pub is_frequent : Bool

-- a job is too frequent that has more than so many starts on some day, where there is such a number
abbrev pub IsOver : Option ℕ → List JobStart → Type 0
IsOver None starts = ⊥
IsOver (Some most) starts = IsFrequent most starts

-- that is so of the job at this place
pub record IsSeen (z : Zone) (span : Span) (most : Option ℕ) (place : ℕ) (schedule : Schedule) (seen : Seen) : Type 0 where
  pub place_is : seen.place ≡ place
  pub lists : ListsJob schedule z span place seen.starts seen.end
  pub mark : IsTrue seen.is_frequent ↔ IsOver most seen.starts

-- that is so of each of the jobs, from this place on
abbrev pub AreSeen : Zone → Span → Option ℕ → ℕ → List Schedule → List Seen → Type 0
AreSeen z span most place [] [] = Unit {0}
AreSeen z span most place [] (s ∷ ss) = ⊥
AreSeen z span most place (j ∷ js) [] = ⊥
AreSeen z span most place (j ∷ js) (s ∷ ss) = IsSeen z span most place j s × AreSeen z span most (suc place) js ss

-- what is shown of a job, and how it is named where it isn't: so each job is shown or named
abbrev pub shown_of : Seen → List JobStart
shown_of seen = if seen.is_frequent then [] else seen.starts

abbrev pub named_of : Seen → List Frequent
named_of seen = if seen.is_frequent then record { job = seen.place; starts = count_of seen.starts } ∷ [] else []

-- the starts of jobs that are shown are known up to the earliest of the ends of theirs
abbrev pub end_with : ℤ → Seen → ℤ
end_with end seen = if seen.is_frequent then end else earlier_of end (Some seen.end)

-- the plan of jobs in a span: it has the starts of each job that is shown, and the others are named with how many they have
pub record IsPlanOf (z : Zone) (span : Span) (most : Option ℕ) (jobs : List Schedule) (starts : List JobStart) (kept : Span) (frequent : List Frequent) : Type 0 where
  pub seen : List Seen
  pub are_seen : AreSeen z span most 0 jobs seen
  pub merges : Merges (flat_map shown_of seen) span.first (fold end_with span.end seen) starts kept
  pub named : frequent ≡ flat_map named_of seen
