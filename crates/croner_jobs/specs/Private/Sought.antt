-- A search for the runs at the seconds that are served, from a second of a zone.
use Rattle.std.specs.Prelude.{◌≡◌, ◌⊎◌, Bool, true, false, IsTrue, ℤ, pos, ◌+ℤ◌, ◌-ℤ◌, ◌<ℤ◌, ◌≤ℤ◌, Option, Some, None, Result, Ok, Err}
use Rattle.croner.specs.Calm.{IsCalm}
use Rattle.croner.specs.Recurring.{CountsFrom, IsRunFound, IsRunRefused}
use Rattle.croner.specs.Zone.{Zone, Moment, at_instant}
use Rattle.croner.specs.search.Premises.{IsSearchable}
use Rattle.croner.specs.search.Refusal.{IsRefusal}
use Rattle.croner.specs.search.Runs.{Precedes, Reaches}
use Rattle.croner_base.specs.declared.errors.CronError.{CronError}
use Rattle.croner_base.specs.declared.errors.CronError.TheVariants.{EmptyPattern, InvalidDate, InvalidTime, TimeSearchLimitExceeded, InvalidPattern, IllegalCharacters, ComponentError, OutOfMemory}
use Rattle.croner_base.specs.declared.time.Direction.{Direction}
use Rattle.croner_base.specs.declared.time.Direction.TheVariants.{Forward, Backward}
use Rattle.croner_jobs.specs.Served.{IsIn, IsServed, first_served, last_served}

-- i lies after s, backward up to it
abbrev pub IsFrom : Direction → ℤ → ℤ → Type 0
IsFrom Forward s i = s <ℤ i
IsFrom Backward s i = i ≤ℤ s

-- a search from t finds all that lies after s from the first second to the last, and nothing else; t lies there or just before
pub record IsStart (direction : Direction) (first last s t : ℤ) : Type 0 where
  pub low : (first -ℤ pos 1) ≤ℤ t
  pub high : t ≤ℤ last
  pub on : (i : ℤ) → IsFrom direction t i → IsFrom direction s i
  pub all : (i : ℤ) → IsIn first last i → IsFrom direction s i → IsFrom direction t i

-- where such a search starts, or none of the seconds lies after s
abbrev pub IsStartOrNone : Direction → ℤ → ℤ → ℤ → Option ℤ → Type 0
IsStartOrNone direction first last s (Some t) = IsStart direction first last s t
IsStartOrNone direction first last s None = (i : ℤ) → IsIn first last i → ¬ (IsFrom direction s i)

-- a second that is served, or so little before or after these that a search from there needs nothing else held
abbrev pub IsAround : ℤ → Type 0
IsAround = IsIn (first_served -ℤ pos 86_401) (last_served +ℤ pos 86_400)

-- f counts from s, and none of these seconds that counts comes before it
pub record IsNearestOf (among : ℤ → Type 0) (direction : Direction) (runs : ℤ → Type 0) (s f : ℤ) : Type 0 where
  pub counts : CountsFrom direction runs s f
  pub nearest : (i : ℤ) → among i → CountsFrom direction runs s i → Reaches direction f i

-- what is found of the runs, in a calm zone the nearest; none where none of these seconds counts
abbrev pub IsSought : {T : Type 0} → (T → Moment) → (ℤ → Type 0) → Direction → (Zone → ℤ → Type 0) → Zone → ℤ → Option T → Type 0
IsSought moment among direction runs z s (Some t) =
    ((moment t).zone ≡ z) × ((moment t).fraction ≡ 0) × (IsCalm z → IsNearestOf among direction (runs z) s (moment t).instant)
IsSought moment among direction runs z s None = IsCalm z → (i : ℤ) → among i → ¬ (CountsFrom direction (runs z) s i)

-- the error is the limit
abbrev pub is_limit_error : CronError → Bool
is_limit_error TimeSearchLimitExceeded = true
is_limit_error EmptyPattern = false
is_limit_error InvalidDate = false
is_limit_error InvalidTime = false
is_limit_error (InvalidPattern m) = false
is_limit_error (IllegalCharacters m) = false
is_limit_error (ComponentError m) = false
is_limit_error OutOfMemory = false

-- why nothing is known: where the backend holds what a search needs, it is lack of memory
pub record IsUnknown (lack : Bool) (start : Moment) (e : CronError) : Type 0 where
  pub promised : IsSearchable start → (e ≡ OutOfMemory) × IsTrue lack
  pub kind : IsRefusal lack e
  pub other : is_limit_error e ≡ false

-- the time of that second, which is served; or it isn't served
abbrev pub IsThere : {T : Type 0} → (T → Moment) → Zone → ℤ → Option T → Type 0
IsThere moment z i (Some t) = (moment t ≡ at_instant z i) × IsServed i
IsThere moment z i None = ¬ (IsServed i)

-- a second that is served isn't held
pub record IsUnheld (z : Zone) (i : ℤ) (e : CronError) : Type 0 where
  pub error : e ≡ InvalidTime
  pub served : IsServed i
  pub unheld : z.holds i ≡ false

-- the runs in a window
abbrev pub in_window : ℤ → ℤ → (Zone → ℤ → Type 0) → Zone → ℤ → Type 0
in_window first last runs z i = runs z i × IsIn first last i

-- the runs of one and of the other
abbrev pub in_either : (Zone → ℤ → Type 0) → (Zone → ℤ → Type 0) → Zone → ℤ → Type 0
in_either first second z i = first z i ⊎ second z i

-- the nearer one of two times in a direction, or the one that is there
abbrev pub IsNearer : {T : Type 0} → (T → Moment) → Direction → Option T → Option T → Option T → Type 0
IsNearer moment direction (Some a) (Some b) r =
    ((r ≡ Some a) × Reaches direction (moment a).instant (moment b).instant)
    ⊎ ((r ≡ Some b) × Reaches direction (moment b).instant (moment a).instant)
IsNearer moment direction (Some a) None r = r ≡ Some a
IsNearer moment direction None b r = r ≡ b

-- a search from t finds all served seconds beyond s, and nothing else
pub record IsPast (direction : Direction) (s t : ℤ) : Type 0 where
  pub around : IsAround t
  pub on : (i : ℤ) → IsFrom direction t i → Precedes direction s i
  pub all : (i : ℤ) → IsServed i → Precedes direction s i → IsFrom direction t i

-- where such a search starts, or no served second lies beyond s
abbrev pub IsPastOrNone : Direction → ℤ → Option ℤ → Type 0
IsPastOrNone direction s (Some t) = IsPast direction s t
IsPastOrNone direction s None = (i : ℤ) → IsServed i → ¬ (Precedes direction s i)

-- the run that a search finds, or it answers the limit
abbrev pub IsFoundOrNone : {T : Type 0} → (T → Moment) → Bool → Direction → (Zone → ℤ → Type 0) → Moment → Option T → Type 0
IsFoundOrNone moment lack direction runs from (Some t) = IsRunFound direction runs from (moment t)
IsFoundOrNone moment lack direction runs from None = IsRunRefused lack direction runs from TimeSearchLimitExceeded

-- why it is refused otherwise
abbrev pub IsRefusedOtherwise : Bool → Direction → (Zone → ℤ → Type 0) → Moment → CronError → Type 0
IsRefusedOtherwise lack direction runs from e = IsRunRefused lack direction runs from e × (is_limit_error e ≡ false)

-- what is found in a window is the answer, and the limit otherwise
abbrev pub IsSettled : {T : Type 0} → (T → Moment) → ℤ → ℤ → Result (Option T) CronError → Result T CronError → Type 0
IsSettled moment first last (Ok (Some t)) r =
    ((r ≡ Ok t) × IsIn first last (moment t).instant) ⊎ ((r ≡ Err TimeSearchLimitExceeded) × ¬ (IsIn first last (moment t).instant))
IsSettled moment first last (Ok None) r = r ≡ Err TimeSearchLimitExceeded
IsSettled moment first last (Err e) r = r ≡ Err e

-- what is found of both jobs: the nearer one, or why one of them is unknown
abbrev pub IsOfBoth : {T : Type 0} → (T → Moment) → Direction → Result (Option T) CronError → Result (Option T) CronError → Result (Option T) CronError → Type 0
IsOfBoth moment direction (Ok a) (Ok b) (Ok r) = IsNearer moment direction a b r
IsOfBoth moment direction (Ok a) (Ok b) (Err e) = ⊥
IsOfBoth moment direction (Ok a) (Err e) r = r ≡ Err e
IsOfBoth moment direction (Err e) b r = r ≡ Err e
