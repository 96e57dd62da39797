-- What calls give of an id over replaces, from the add of its job to its removal, and of a job that is added again. Source: this crate's
-- documentation.
use Rattle.std.specs.Prelude.{◌≡◌, ◌↔◌, ℕ, ℤ, List, [], ◌∷◌, ◌++◌, Some, None}
use Rattle.std.specs.List.{All}
use Rattle.croner_base.specs.Calm.{IsCalm}
use Rattle.croner_base.specs.Zone.{Zone, Moment}
use Rattle.croner_scheduler.specs.Calls.{StandsAt}
use Rattle.croner_scheduler.specs.History.{Call, Add, Replace, Remove, MakesInTurn, Stays, given, place_after_all, IsPassedOver, IsGivenBetween}
use Rattle.croner_scheduler.specs.Standing.{Standing, Held}

-- calls give the runs of the job k in order, from one standing to another
abbrev pub Gives : {J : Type 0} → (J → Zone → ℤ → Type 0) → ℕ → List (Call J) → Standing J → Standing J → Type 0
Gives runs k calls s s' = IsGivenBetween runs s s' (given k calls) (IsPassedOver k s.position.instant calls)

-- ---- over replaces

-- a job that replaces another, its position, and the calls from then on
pub record Replacing (J : Type 0) : Type 0 where
  pub job : J
  pub position : Moment
  pub calls : List (Call J)

-- the calls before the job k is replaced, and those of each job that replaces it, with the replaces between them
abbrev pub with_replaces : {J : Type 0} → ℕ → List (Call J) → List (Replacing J) → List (Call J)
with_replaces k calls [] = calls
with_replaces k calls (next ∷ more) = calls ++ Replace k next.job next.position ∷ with_replaces k next.calls more

-- no other call removes or replaces it
abbrev pub StaysBetween : {J : Type 0} → ℕ → List (Call J) → List (Replacing J) → Type 0
StaysBetween k calls [] = All (Stays k) calls
StaysBetween k calls (next ∷ more) = All (Stays k) calls × StaysBetween k next.calls more

-- what the calls between the replaces give of k, in order
abbrev pub given_between : {J : Type 0} → ℕ → List (Call J) → List (Replacing J) → List ℤ
given_between k calls [] = given k calls
given_between k calls (next ∷ more) = given k calls ++ given_between k next.calls more

-- they give the runs of the first job from one standing on, and of each that replaces it from its own position on, up to another standing
abbrev pub GivesEach : {J : Type 0} → (J → Zone → ℤ → Type 0) → ℕ → List (Call J) → List (Replacing J) → Standing J → Standing J → Type 0
GivesEach runs k calls [] s s' = Gives runs k calls s s'
GivesEach {J} runs k calls (next ∷ more) s s' = (m : Standing J) × (n : Standing J) × Gives runs k calls s m
    × StandsAt next.job next.position.zone next.position.instant n × GivesEach runs k next.calls more n s'

-- however often the job k is replaced between calls, the calls between two replaces give the runs of the job that stands there then, and
-- nothing else is given of k
abbrev pub GivesAcross : {J : Type 0} → (J → Zone → ℤ → Type 0) → Held J → Type 0
GivesAcross {J} runs h = (calls : List (Call J)) (more : List (Replacing J)) (k : ℕ) (h' : Held J)
    → MakesInTurn runs (with_replaces k calls more) h h' → (s : Standing J) → h.jobs k ≡ Some s → StaysBetween k calls more
    → (s' : Standing J) × GivesEach runs k calls more s s' × (h'.jobs k ≡ Some s')
    × (given k (with_replaces k calls more) ≡ given_between k calls more)

-- ---- from the add to the removal

-- whatever calls are made before the add of a job, between it and its removal, and after that: those between give its runs from its
-- position on, and nothing else is given of its id
abbrev pub GivesOfOneLife : {J : Type 0} → (J → Zone → ℤ → Type 0) → Held J → Type 0
GivesOfOneLife {J} runs h = (before during after : List (Call J)) (k : ℕ) (job : J) (position : Moment) (h' : Held J)
    → MakesInTurn runs (before ++ (Add job position k ∷ during ++ Remove k ∷ after)) h h' → All (Stays k) during
    → (s : Standing J) × (s' : Standing J) × StandsAt job position.zone position.instant s × Gives runs k during s s'
    × (given k (before ++ (Add job position k ∷ during ++ Remove k ∷ after)) ≡ given k during) × (h'.jobs k ≡ None)

-- ---- after a restart

-- the same job stands at the same second of the same zone here and in another scheduler, under whatever ids. The calls of both move it to one
-- place, and pass over the same. In a calm zone they give the same of it
abbrev pub GivesAgain : {J : Type 0} → (J → Zone → ℤ → Type 0) → Held J → Type 0
GivesAgain {J} runs h = (other h' other' : Held J) (calls again : List (Call J)) → MakesInTurn runs calls h h' → MakesInTurn runs again other other'
    → (k l : ℕ) (s t : Standing J) → h.jobs k ≡ Some s → other.jobs l ≡ Some t → StandsAt s.job s.position.zone s.position.instant t
    → All (Stays k) calls → All (Stays l) again → IsCalm s.position.zone
    → place_after_all k s.position.instant calls ≡ place_after_all l s.position.instant again
    → ((i : ℤ) → IsPassedOver k s.position.instant calls i ↔ IsPassedOver l s.position.instant again i)
    → given k calls ≡ given l again
