-- What an iterator over a table keeps of the searches of its jobs, from one item to the next: the runs that they found, which
-- jobs are to be searched, and that the others have no run left; and a run of which the item is not given yet.
-- Private contracts alone cite these definitions.
use Rattle.std.specs.Prelude.{◌≡◌, ◌<◌, ◌≤◌, ◌+◌, ◌==◌, ℕ, cond, Bool, true, List, ◌∷◌, ◌++◌, [], length, Some, slice_get, slice_index_or, IsPermutation}
use Rattle.std.specs.BinaryHeap.{IsUpperBound}
use Rattle.std.specs.List.{All, AllPairs, sum_by}
use Rattle.croner_base.specs.declared.time.Direction.{Direction}
use Rattle.croner_base.specs.Zone.{Moment, nanos_of}
use Rattle.croner_pattern.specs.Meaning.{Meaning}
use Rattle.croner.specs.declared.crontable.due.Due.{Due}
use Rattle.croner.specs.Private.crontable.Dues.{due_cmp}
use Rattle.croner.specs.search.Limit.{NoneInSpan}
use Rattle.croner.specs.search.PatternJob.{timetable_of}
use Rattle.croner.specs.search.Premises.{StartsCalm}
use Rattle.croner.specs.search.Runs.{Timetable, job_in, Precedes, Reaches}
use Rattle.croner.specs.search.Searches.{IsFound}

-- whether it is that place
abbrev pub is_place : ℕ → ℕ → ℕ
is_place k place = cond (place == k) 1 0

-- how often a place has a run, or waits to be searched
abbrev pub times : {T : Type 0} → ℕ → List (Due T) → List ℕ → ℕ
times k dues waiting = sum_by (λ due. is_place k due.place) dues + sum_by (is_place k) waiting

-- a run that the search of its job from the start could give
abbrev pub IsDue : {T : Type 0} → (T → Moment) → List Meaning → Direction → Bool → Moment → Due T → Type 0
IsDue moment patterns direction inclusive start due =
    (due.direction ≡ direction) × (due.place < length patterns)
    × ((m : Meaning) → slice_get patterns due.place ≡ Some m → ∥ IsFound direction inclusive (timetable_of m) start (moment due.run) ∥₁)

-- no run of the job is left
abbrev pub HasNoneLeft : Direction → Bool → Timetable → Moment → Type 0
HasNoneLeft direction inclusive timetable start = StartsCalm start → NoneInSpan direction inclusive (job_in start.zone timetable) start.instant

-- each job has a run, waits, or has none left, which the mark says of some
abbrev pub AreKept : {T : Type 0} → (T → Moment) → List Meaning → Direction → Bool → Moment → List (Due T) → List ℕ → Bool → Type 0
AreKept moment patterns direction inclusive start dues waiting is_limited =
    All (IsDue moment patterns direction inclusive start) dues × All (λ k. k < length patterns) waiting
    × ((k : ℕ) → times k dues waiting ≤ 1)
    × ((k : ℕ) (m : Meaning) → slice_get patterns k ≡ Some m → times k dues waiting ≡ 0 → (is_limited ≡ true) × ∥ HasNoneLeft direction inclusive (timetable_of m) start ∥₁)

-- each run lies ahead of an item
abbrev pub LieAhead : {T : Type 0} → (T → Moment) → Direction → Moment → List (Due T) → Type 0
LieAhead moment direction item dues = All (λ due. Precedes direction item.instant (moment due.run).instant) dues

-- a run is held until its item is given: it is the answer of each place that waits, they ascend, and the other runs lie ahead
abbrev pub IsHeld : {T : Type 0} → (T → Moment) → List Meaning → Direction → Bool → Moment → T → List (Due T) → List ℕ → Type 0
IsHeld moment patterns direction inclusive start run dues waiting =
    (0 < length waiting) × AllPairs (◌<◌) waiting
    × All (λ k. (m : Meaning) → slice_get patterns k ≡ Some m → ∥ IsFound direction inclusive (timetable_of m) start (moment run) ∥₁) waiting
    × LieAhead moment direction (moment run) dues

-- no job waits that did not wait before
abbrev pub WaitedBefore : List ℕ → List ℕ → Type 0
WaitedBefore before now = (k : ℕ) → sum_by (is_place k) now ≤ sum_by (is_place k) before

-- the first of the runs is taken, and its place waits from then on
pub record IsPopped {T : Type 0} (moment : T → Moment) (dues rest : List (Due T)) (waiting more : List ℕ) (run : T) : Type 0 where
  pub due : Due T
  pub gives : due.run ≡ run
  pub first : due ≡ slice_index_or dues 0 due
  pub items : IsPermutation dues (due ∷ rest)
  pub above : IsUpperBound (due_cmp moment) due rest
  pub waits : more ≡ waiting ++ due.place ∷ []

-- the first of the runs stands at another instant than one that was taken, if there is a run
pub record IsApart {T : Type 0} (moment : T → Moment) (dues : List (Due T)) (run : T) : Type 0 where
  pub due : Due T
  pub first : due ≡ slice_index_or dues 0 due
  pub above : IsUpperBound (due_cmp moment) due dues
  pub other : ¬ (nanos_of (moment due.run) ≡ nanos_of (moment run))

-- an item that a search from the start gave
pub record LeadsTo (direction : Direction) (start item : Moment) : Type 0 where
  pub zone : item.zone ≡ start.zone
  pub whole : item.fraction ≡ 0
  pub on : StartsCalm start → Reaches direction start.instant item.instant
