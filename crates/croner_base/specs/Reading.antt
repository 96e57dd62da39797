-- What reading a text does to a field, and whether it accepts the text.
use Rattle.std.specs.Prelude.{◌≡◌, ℕ, Bool, true, false, List, [], ◌∷◌, ◌++◌, Option, Some, None, Result, Ok, Err, bit_or, if◌then◌else◌}
use Rattle.croner_base.specs.declared.component.parts.RefusedPart.{RefusedPart}
use Rattle.croner_base.specs.declared.errors.CronError.{CronError}
use Rattle.croner_base.specs.Answers.{SucceedsIff, IsFieldError}
use Rattle.croner_base.specs.Field.{Field, with_mark}

-- one thing that reading does to a field
pub data Effect : Type 0 where
  marks : ℕ → ℕ → Effect
  enables : ℕ → Effect
  steps : ℕ → Effect
  stars : Effect

-- what was done up to the end or the fault, and whether all was accepted
pub record Reading : Type 0 where
  pub done : List Effect
  pub accepted : Bool

abbrev pub refused : Reading
refused = record { done = []; accepted = false }

abbrev pub nothing : Reading
nothing = record { done = []; accepted = true }

abbrev pub did : Effect → Reading
did effect = record { done = effect ∷ []; accepted = true }

infixl 10 ◌then◌
abbrev pub ◌then◌ : Reading → Reading → Reading
first then next = if first.accepted then (record { done = first.done ++ next.done; accepted = next.accepted }) else first

-- goes on where the test holds, and where there is a value
abbrev pub wants : Bool → Reading → Reading
wants test next = if test then next else refused

abbrev pub with : {X : Type 0} → Option X → (X → Reading) → Reading
with None next = refused
with (Some x) next = next x

-- a field after what reading did
abbrev pub applied_one : Effect → Field → Field
applied_one (marks v bits) f = with_mark f v bits
applied_one (enables bits) f = record f { enabled = bit_or f.enabled bits }
applied_one (steps n) f = record f { step = n }
applied_one stars f = record f { wildcard = true }

abbrev pub applied : List Effect → Field → Field
applied [] f = f
applied (effect ∷ effects) f = applied effects (applied_one effect f)

-- the call succeeds where the test is true, and else is refused at that part by the error of a field
abbrev pub StopsAt : Bool → ℕ → Result (Unit {0}) RefusedPart → Type 0
StopsAt accepted part (Ok x) = accepted ≡ true
StopsAt accepted part (Err e) = (accepted ≡ false) × (e.part ≡ part) × IsFieldError e.error

-- the call did what reading does, up to the end or the fault, and succeeds where reading accepts
pub record Reads {X : Type 0} (reading : Reading) (old new : Field) (result : Result X CronError) : Type 0 where
  pub answer : SucceedsIff reading.accepted result
  pub state : new ≡ applied reading.done old

-- the same, and a refusal has the number of the part that is refused
pub record ReadsParts (reading : Reading) (part : ℕ) (old new : Field) (result : Result (Unit {0}) RefusedPart) : Type 0 where
  pub answer : StopsAt reading.accepted part result
  pub state : new ≡ applied reading.done old
