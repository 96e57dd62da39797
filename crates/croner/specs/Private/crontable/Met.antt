-- What the searches of a table's patterns have answered so far, one after the other, and what they come to.
-- Private contracts alone cite these definitions.
use Rattle.std.specs.Prelude.{◌≡◌, ⊤, ◌⊎◌, ℕ, Bool, true, false, List, [], ◌∷◌, ◌++◌, Option, Some, None, Result, Ok, Err}
use Rattle.std.specs.declared.cmp.Ordering.{Ordering}
use Rattle.std.specs.declared.cmp.Ordering.TheVariants.{Less, Equal, Greater}
use Rattle.std.specs.declared.alloc.Global.{Global}
use Rattle.std.specs.declared.vec.Vec.{Vec}
use Rattle.croner_base.specs.declared.errors.CronError.{CronError}
use Rattle.croner_base.specs.declared.errors.CronError.TheVariants.{TimeSearchLimitExceeded}
use Rattle.croner_base.specs.declared.time.Direction.{Direction}
use Rattle.croner_base.specs.Zone.{Moment, nanos_of}
use Rattle.croner.specs.declared.crontable.nearest.Met.{Met}
use Rattle.croner.specs.search.Limit.{InSpan}
use Rattle.croner.specs.search.Premises.{StartsCalm, IsSearchable}
use Rattle.croner.specs.Private.search.Held.{IsBackendError}
use Rattle.croner.specs.search.Runs.{Precedes}

-- the nearest run so far, the places that answered it, and whether a pattern answered the limit
pub record MetAnswers (T : Type 0) : Type 0 where
  pub nearest : Option T
  pub places : List ℕ
  pub is_limited : Bool

-- what contracts see of them
abbrev pub met_of : {T : Type 0} → Met T → MetAnswers T
met_of met = record { nearest = met.nearest; places = met.places.items; is_limited = met.is_limited }

-- nothing yet
abbrev pub new_met : {T : Type 0} → MetAnswers T
new_met = record { nearest = None; places = []; is_limited = false }

-- how an answer lies to the nearest so far: before it in the direction, where there is one; at the same instant; or after it
abbrev pub IsOrdered : {T : Type 0} → (T → Moment) → Direction → T → Option T → Ordering → Type 0
IsOrdered moment direction found None Less = ⊤
IsOrdered moment direction found (Some nearest) Less = Precedes direction (nanos_of (moment found)) (nanos_of (moment nearest))
IsOrdered moment direction found None Equal = ⊥
IsOrdered moment direction found (Some nearest) Equal = nanos_of (moment found) ≡ nanos_of (moment nearest)
IsOrdered moment direction found None Greater = ⊥
IsOrdered moment direction found (Some nearest) Greater = Precedes direction (nanos_of (moment nearest)) (nanos_of (moment found))

-- the answer of the place k: a nearer run replaces what was met, an equal one appends its place, a later one changes nothing
abbrev pub Meets : {T : Type 0} → ℕ → T → Ordering → MetAnswers T → MetAnswers T
Meets k found Less old = record old { nearest = Some found; places = k ∷ [] }
Meets k found Equal old = record old { places = old.places ++ k ∷ [] }
Meets k found Greater old = old

-- a run is met; the limit is remembered; any other error is the answer at once
abbrev pub TakesIn : {T : Type 0} → (T → Moment) → Direction → ℕ → Result T CronError → MetAnswers T → MetAnswers T → Result (Unit {0}) CronError → Type 0
TakesIn moment direction k (Ok found) old new result = (order : Ordering) × IsOrdered moment direction found old.nearest order × (new ≡ Meets k found order old) × (result ≡ Ok tt)
TakesIn moment direction k (Err e) old new result =
    ((e ≡ TimeSearchLimitExceeded) × (new ≡ record old { is_limited = true }) × (result ≡ Ok tt))
    ⊎ (¬ (e ≡ TimeSearchLimitExceeded) × (result ≡ Err e))

-- why it is refused: the limit, where no pattern has a run, or where one answered the limit and the nearest run lies outside
-- the span; or what the span's test answers, which is asked only there
abbrev pub DecidesRefusal : {T : Type 0} → (T → Moment) → Bool → Direction → Option T → Bool → CronError → Type 0
DecidesRefusal moment lack direction None is_limited e = e ≡ TimeSearchLimitExceeded
DecidesRefusal moment lack direction (Some nearest) false e = ⊥
DecidesRefusal moment lack direction (Some nearest) true e =
    ((e ≡ TimeSearchLimitExceeded) × (StartsCalm (moment nearest) → ¬ (InSpan direction (moment nearest).zone.reads (moment nearest).instant)))
    ⊎ IsBackendError lack (¬ (IsSearchable (moment nearest))) e

-- what they come to: else the nearest run with its places; where a pattern answered the limit, it lies in the span
abbrev pub Decides : {T : Type 0} → (T → Moment) → Bool → Direction → MetAnswers T → Vec ℕ Global → Result (T × Vec ℕ Global) CronError → Type 0
Decides moment lack direction met places (Ok answer) =
    (met.nearest ≡ Some answer.0) × (answer.1 ≡ places)
    × (met.is_limited ≡ true → StartsCalm (moment answer.0) → InSpan direction (moment answer.0).zone.reads (moment answer.0).instant)
Decides moment lack direction met places (Err e) = DecidesRefusal moment lack direction met.nearest met.is_limited e
