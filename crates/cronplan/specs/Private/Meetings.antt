-- The moments at which several jobs start, with these jobs, and the sets of the jobs one by one.
use Rattle.std.specs.Prelude.{◌≡◌, ◌≢◌, ℕ, Bool, true, nat_lt, if◌then◌else◌, List, [], ◌∷◌, length, map, filter, take, slice_get, Some}
use Rattle.std.specs.Cmp.Lexicographic.{slice_cmp}
use Rattle.std.specs.List.{All, AllPairs, Contains}
use Rattle.std.specs.List.Sorted.{IsPermutation, IsSortedBy, IsStableBy, ties}
use Rattle.std.specs.Ordering.{nat_cmp, is_lt}
use Rattle.cronplan.specs.declared.moments.Moment.{Moment}
use Rattle.cronplan.specs.declared.start.JobStart.{JobStart}
use Rattle.cronplan.specs.declared.together.Meeting.{Meeting}
use Rattle.cronplan.specs.declared.together.Together.{Together}
use Rattle.cronplan.specs.Moments.{AreMoments}
use Rattle.cronplan.specs.Private.MomentsUntil.{AreMomentsUntil}
use Rattle.cronplan.specs.Together.{jobs_at, has_several}

-- ---- meetings: moments at which several jobs start

-- the jobs of a meeting, and its moment
abbrev pub seen_of : Meeting → List ℕ × Moment
seen_of m = (m.jobs.items, m.moment)

-- these of a moment
abbrev pub seen_at : List JobStart → Moment → List ℕ × Moment
seen_at starts m = (jobs_at m.second starts, m)

-- these, if the jobs are several
abbrev pub seen_if_several : List ℕ → Moment → List (List ℕ × Moment)
seen_if_several jobs m = if nat_lt 1 (length jobs) then (jobs, m) ∷ [] else []

-- the meetings of starts before a place, in the order of their moments
pub record AreMeetingsUntil (place : ℕ) (starts : List JobStart) (meetings : List Meeting) : Type 0 where
  pub moments : List Moment
  pub until : AreMomentsUntil place starts moments
  pub seen : map seen_of meetings ≡ map (seen_at starts) (filter (has_several starts) moments)

-- the meetings of starts
pub record AreMeetings (starts : List JobStart) (meetings : List Meeting) : Type 0 where
  pub moments : List Moment
  pub are_moments : AreMoments starts moments
  pub seen : map seen_of meetings ≡ map (seen_at starts) (filter (has_several starts) moments)

-- the jobs of a meeting are lower than those of another, as lists
abbrev pub is_lower : Meeting → Meeting → Bool
is_lower a b = is_lt (slice_cmp nat_cmp a.jobs.items b.jobs.items)

-- of meetings those with the jobs of one
abbrev pub meetings_with_jobs : Meeting → List Meeting → List Meeting
meetings_with_jobs m meetings = filter (ties is_lower m) meetings

-- the meetings of starts by their jobs, those with the same jobs in the order of their moments
pub record AreByJobs (starts : List JobStart) (meetings : List Meeting) : Type 0 where
  pub first : List Meeting
  pub are_meetings : AreMeetings starts first
  pub same : IsPermutation first meetings
  pub stable : IsStableBy is_lower first meetings
  pub order : IsSortedBy is_lower meetings

-- ---- sets of jobs

-- the jobs of meetings, and those of sets
abbrev pub jobs_in : List Meeting → List (List ℕ)
jobs_in meetings = map (λ m. m.jobs.items) meetings

abbrev pub sets_in : List Together → List (List ℕ)
sets_in sets = map (λ t. t.jobs.items) sets

-- all meetings with the jobs of one, which is the first of them: those before a place have lower ones
pub record IsNewGroup (meetings : List Meeting) (place : ℕ) (m : Meeting) (group : List Meeting) : Type 0 where
  pub group_is : group ≡ meetings_with_jobs m meetings
  pub first_is : slice_get group 0 ≡ Some m
  pub lower : All (λ x. is_lower x m ≡ true) (take place meetings)

-- the jobs of a meeting: with how many meetings have them, and the moment of the first of these
pub record IsSetOf (meetings : List Meeting) (t : Together) : Type 0 where
  pub meeting : Meeting
  pub has : Contains meetings meeting
  pub jobs_are : t.jobs.items ≡ meeting.jobs.items
  pub count_is : t.moments ≡ length (meetings_with_jobs meeting meetings)
  pub first_is : slice_get (map (λ m. m.moment) (meetings_with_jobs meeting meetings)) 0 ≡ Some t.first

-- the sets of the meetings before a place, each once
pub record AreSetsUntil (place : ℕ) (meetings : List Meeting) (sets : List Together) : Type 0 where
  pub each : All (IsSetOf meetings) sets
  pub once : AllPairs (λ a b. a.jobs.items ≢ b.jobs.items) sets
  pub complete : All (λ m. Contains (sets_in sets) m.jobs.items) (take place meetings)
  pub had : All (λ t. Contains (jobs_in (take place meetings)) t.jobs.items) sets

-- the sets of meetings
pub record AreSets (meetings : List Meeting) (sets : List Together) : Type 0 where
  pub each : All (IsSetOf meetings) sets
  pub once : AllPairs (λ a b. a.jobs.items ≢ b.jobs.items) sets
  pub complete : All (λ m. Contains (sets_in sets) m.jobs.items) meetings
