-- Calls of a scheduler one after the other: what they give of a job, and what they pass over. Source: this crate's documentation.
use Rattle.std.specs.Prelude.{◌≡◌, ◌⊎◌, ⊤, ◌<◌, ℕ, nat_eq, cond, ℤ, ◌<ℤ◌, ◌≤ℤ◌, Bool, true, false, List, [], ◌∷◌, ◌++◌, Option, Some, None, IfSome, IsSome}
use Rattle.std.specs.Int.{int_max}
use Rattle.std.specs.List.{All, AllPairs, Contains}
use Rattle.croner_base.specs.Calm.{IsCalm}
use Rattle.croner_base.specs.Zone.{Zone, Moment}
use Rattle.croner.specs.search.Premises.{IsSearchable}
use Rattle.croner_scheduler.specs.declared.latest.Latest.{Latest}
use Rattle.croner_scheduler.specs.declared.latest.Latest.TheVariants as latest
use Rattle.croner_scheduler.specs.declared.resume.Resume.{Resume}
use Rattle.croner_scheduler.specs.declared.resume.Resume.TheVariants.{GoesOn}
use Rattle.croner_scheduler.specs.declared.skip.Skip.{Skip}
use Rattle.croner_scheduler.specs.declared.skip.Skip.TheVariants.{Moved}
use Rattle.croner_scheduler.specs.declared.turns.Turn.{Turn}
use Rattle.croner_scheduler.specs.Calls.{IsSame, IsWakeUp, TakesDue, TakesLatest, SkipsTo, SkipsEach, IsAdded, IsPut, IsRemoved, AsksAgain, Pauses, Resumes}
use Rattle.croner_scheduler.specs.Kept.{CanBeAt, is_paused}
use Rattle.croner_scheduler.specs.Standing.{Standing, Held, Left, Seen}

-- a call, what it was told and what it answered; an add or a replace that was refused, and any call that lacked memory, change nothing. A
-- skip of all has, in place of its answer, the ids of the jobs that it moved: each that was behind, or where it lacked memory some of them
pub data Call (J : Type 0) : Type 0 where
  TakeDue : ℤ → Option Turn → Call J
  TakeLatestDue : ℕ → ℤ → Latest → Call J
  SkipTo : ℕ → ℤ → Skip → Call J
  SkipAllTo : ℤ → (ℕ → Bool) → Call J
  Add : J → Moment → ℕ → Call J
  Replace : ℕ → J → Moment → Call J
  Remove : ℕ → Call J
  AskAgain : ℕ → Bool → Call J
  Pause : ℕ → Bool → Call J
  ResumeFrom : ℕ → ℤ → Resume → Call J
  ChangeNothing : Call J

-- what a scheduler holds before a call and after it
abbrev pub Makes : {J : Type 0} → (J → Zone → ℤ → Type 0) → Call J → Held J → Held J → Type 0
Makes runs (TakeDue now due) h h' = TakesDue runs now h h' due
Makes runs (TakeLatestDue id now answer) h h' = TakesLatest runs id now h h' answer
Makes runs (SkipTo id now skip) h h' = SkipsTo id now h h' skip
Makes runs (SkipAllTo now moves) h h' = SkipsEach moves now h h'
Makes runs (Add job position id) h h' = IsAdded job position h h' id
Makes runs (Replace id job position) h h' = IsSome (h.jobs id) × IsPut job position h id h'
Makes runs (Remove id) h h' = IsRemoved id h h'
Makes runs (AskAgain id again) h h' = AsksAgain id h h' again
Makes runs (Pause id is_there) h h' = Pauses id h h' is_there
Makes runs (ResumeFrom id from resume) h h' = Resumes id from h h' resume
Makes runs ChangeNothing h h' = IsSame h h'

-- before the calls of a list, and after the last of them
abbrev pub MakesInTurn : {J : Type 0} → (J → Zone → ℤ → Type 0) → List (Call J) → Held J → Held J → Type 0
MakesInTurn runs [] h h' = IsSame h h'
MakesInTurn {J} runs (call ∷ calls) h h' = (between : Held J) × Makes runs call h between × MakesInTurn runs calls between h'

-- the call neither removes nor replaces the job of the id k
abbrev pub Stays : {J : Type 0} → ℕ → Call J → Type 0
Stays k (Replace id job position) = ¬ (id ≡ k)
Stays k (Remove id) = ¬ (id ≡ k)
Stays k call = ⊤

-- ---- of the job of the id k

-- the instant that a call gave of it, if it gave one
abbrev pub given_by : {J : Type 0} → ℕ → Call J → List ℤ
given_by k (TakeDue now (Some due)) = cond (nat_eq k due.id) (due.second ∷ []) []
given_by k (TakeLatestDue id now (latest.Given i b)) = cond (nat_eq k id) (i ∷ []) []
given_by k call = []

-- those of a list of calls, in order
abbrev pub given : {J : Type 0} → ℕ → List (Call J) → List ℤ
given k [] = []
given k (call ∷ calls) = given_by k call ++ given k calls

-- where it stands after a call, if it stood at p
abbrev pub place_after : {J : Type 0} → ℕ → ℤ → Call J → ℤ
place_after k p (TakeDue now (Some due)) = cond (nat_eq k due.id) due.second p
place_after k p (TakeLatestDue id now (latest.Given i b)) = cond (nat_eq k id) i p
place_after k p (SkipTo id now (Moved b)) = cond (nat_eq k id) now p
place_after k p (SkipAllTo now moves) = cond (moves k) now p
place_after k p (ResumeFrom id from (GoesOn b)) = cond (nat_eq k id) (int_max p from) p
place_after k p call = p

-- and after a list of calls
abbrev pub place_after_all : {J : Type 0} → ℕ → ℤ → List (Call J) → ℤ
place_after_all k p [] = p
place_after_all k p (call ∷ calls) = place_after_all k (place_after k p call) calls

-- the call passes over j, where it stood at p: j lies after p, and before the last due run that it gives, or no later than the second to which it
-- skips, or from which it is resumed
abbrev pub PassesOver : {J : Type 0} → ℕ → ℤ → Call J → ℤ → Type 0
PassesOver k p (TakeLatestDue id now (latest.Given i b)) j = (id ≡ k) × (p <ℤ j) × (j <ℤ i)
PassesOver k p (SkipTo id now (Moved b)) j = (id ≡ k) × (p <ℤ j) × (j ≤ℤ now)
PassesOver k p (SkipAllTo now moves) j = (moves k ≡ true) × (p <ℤ j) × (j ≤ℤ now)
PassesOver k p (ResumeFrom id from (GoesOn b)) j = (id ≡ k) × (p <ℤ j) × (j ≤ℤ from)
PassesOver k p call j = ⊥

-- some call of a list does
abbrev pub IsPassedOver : {J : Type 0} → ℕ → ℤ → List (Call J) → ℤ → Type 0
IsPassedOver k p [] j = ⊥
IsPassedOver k p (call ∷ calls) j = PassesOver k p call j ⊎ IsPassedOver k (place_after k p call) calls j

-- what was given of a job between two of its standings
pub record IsGivenBetween {J : Type 0} (runs : J → Zone → ℤ → Type 0) (s s' : Standing J) (items : List ℤ) (passed : ℤ → Type 0) : Type 0 where
  -- it is the same job in the same zone, and stands no earlier
  pub job_is : s'.job ≡ s.job
  pub zone_is : s'.position.zone ≡ s.position.zone
  pub on : s.position.instant ≤ℤ s'.position.instant
  -- where a stop can be only for a reason that holds at the first position, it can be so at the last
  pub stop : IfSome s.stop (CanBeAt s.position) → IfSome s'.stop (CanBeAt s'.position)
  -- the items are in order, each once, after its first position and up to its last
  pub ordered : AllPairs (λ i j. i <ℤ j) items
  pub between : All (λ i. (s.position.instant <ℤ i) × (i ≤ℤ s'.position.instant)) items
  -- what was passed over lies there too, and is none of them
  pub passed_between : (i : ℤ) → passed i → (s.position.instant <ℤ i) × (i ≤ℤ s'.position.instant)
  pub apart : All (λ i. ¬ (passed i)) items
  -- in a calm zone each is a run of it, and each run that was left is among them, was passed over, or is left still
  pub are_runs : IsCalm s.position.zone → All (λ i. ∥ runs s.job s.position.zone i ∥₁) items
  pub either : IsCalm s.position.zone → (i : ℤ) → Left runs s i → Contains items i ⊎ passed i ⊎ Left runs s' i

-- whatever calls are made, a job that is neither removed nor replaced gives its runs so, and stands where the last call that moved it put
-- it
abbrev pub GivesInTurn : {J : Type 0} → (J → Zone → ℤ → Type 0) → Held J → Type 0
GivesInTurn {J} runs h = (calls : List (Call J)) (h' : Held J) → MakesInTurn runs calls h h' → (k : ℕ) (s : Standing J) → h.jobs k ≡ Some s → All (Stays k) calls
    → (s' : Standing J) × (h'.jobs k ≡ Some s') × IsGivenBetween runs s s' (given k calls) (IsPassedOver k s.position.instant calls)
    × (s'.position.instant ≡ place_after_all k s.position.instant calls)

-- each run of the job that was seen from s on, of those with P, was given by the calls or passed over by one of them
abbrev pub AreDoneWith : {J : Type 0} → (J → Zone → ℤ → Type 0) → ℕ → Standing J → List (Call J) → (ℤ → Type 0) → Type 0
AreDoneWith runs k s calls P = (i : ℤ) → Seen runs s i → P i → Contains (given k calls) i ⊎ IsPassedOver k s.position.instant calls i

-- none is kept back: all up to now are done with if nothing is due then; so are all that come before what is given next, by instant and
-- then by id, all before the wake-up, and all if there is no wake-up
pub record KeepsNoneBack {J : Type 0} (runs : J → Zone → ℤ → Type 0) (k : ℕ) (s : Standing J) (calls : List (Call J)) (h' : Held J) : Type 0 where
  pub due : (now : ℤ) (after : Held J) → TakesDue runs now h' after None → AreDoneWith runs k s calls (λ i. i ≤ℤ now)
  pub first : (now : ℤ) (d : Turn) (after : Held J) → TakesDue runs now h' after (Some d)
      → AreDoneWith runs k s calls (λ i. (i <ℤ d.second) ⊎ ((i ≡ d.second) × (k < d.id)))
  pub wake_up : (second : ℤ) → IsWakeUp runs h' (Some second) → AreDoneWith runs k s calls (λ i. i <ℤ second)
  pub over : IsWakeUp runs h' None → AreDoneWith runs k s calls (λ i. ⊤)

-- it isn't paused, no search from where it stands is refused, and if it was stopped before, that was for a reason
abbrev pub CannotStop : {J : Type 0} → Standing J → Standing J → Type 0
CannotStop s s' = IfSome s.stop (CanBeAt s.position) × IsSearchable s'.position × (is_paused s'.stop ≡ false)

-- whatever calls are made, none is kept back of a job in a calm zone that is neither removed nor replaced, and isn't stopped after them or
-- can't be
abbrev pub NeverKeepsBack : {J : Type 0} → (J → Zone → ℤ → Type 0) → Held J → Type 0
NeverKeepsBack {J} runs h = (calls : List (Call J)) (h' : Held J) → MakesInTurn runs calls h h' → (k : ℕ) (s : Standing J) → h.jobs k ≡ Some s → All (Stays k) calls
    → IsCalm s.position.zone → IfSome (h'.jobs k) (λ s'. (s'.stop ≡ None) ⊎ CannotStop s s' → KeepsNoneBack runs k s calls h')

-- whatever calls are made, of an id that was given away and has no job any more nothing is given, and it gets none
abbrev pub StaysGone : {J : Type 0} → (J → Zone → ℤ → Type 0) → Held J → Type 0
StaysGone {J} runs h = (calls : List (Call J)) (h' : Held J) → MakesInTurn runs calls h h' → (k : ℕ) → k < h.next_id → h.jobs k ≡ None
    → (given k calls ≡ []) × (h'.jobs k ≡ None)
