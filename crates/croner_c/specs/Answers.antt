-- What a call comes to, a value or the reason why there is none, and how the call tells it.
use Rattle.std.specs.Prelude.{◌≡◌, ℤ, Result, Ok, Err}
use Rattle.croner_c.specs.Status.{status_of}
use Rattle.croner_c.specs.declared.status.Reason.{Reason}
use Rattle.croner_c.specs.declared.status.Reason.TheVariants as reasons

-- what contracts see of a value, if there is one
abbrev pub seen : {X Y : Type 0} → (X → Y) → Result X Reason → Result Y Reason
seen view (Ok x) = Ok (view x)
seen view (Err reason) = Err reason

-- a value of which this holds, or lack of memory
abbrev pub OrLack : {X : Type 0} → (X → Type 0) → Result X Reason → Type 0
OrLack Holds (Ok x) = Holds x
OrLack Holds (Err reasons.OutOfMemory) = Unit {0}
OrLack Holds (Err other) = ⊥

-- with a value the call goes on, and a reason is its answer
abbrev pub Then : {X Y : Type 0} → Result X Reason → (X → Result Y Reason → Type 0) → Result Y Reason → Type 0
Then (Ok x) IsAnswer answer = IsAnswer x answer
Then (Err reason) IsAnswer answer = answer ≡ Err reason

-- the call goes on with what a step came to
abbrev pub After : {X Y : Type 0} → (Result X Reason → Type 0) → (X → Result Y Reason → Type 0) → Result Y Reason → Type 0
After {X} IsStep IsAnswer answer = (step : Result X Reason) × IsStep step × Then step IsAnswer answer

-- the status, and what is written over what stood there: with a value what it tells, and without one nothing
abbrev pub told : {X Y : Type 0} → (X → Y → ℤ × Y) → Result X Reason → Y → ℤ × Y
told tell (Ok x) old = tell x old
told tell (Err reason) old = (status_of reason, old)

-- a call tells its answer
abbrev pub Tells : {X Y : Type 0} → (Result X Reason → Type 0) → (X → Y → ℤ × Y) → Y → ℤ × Y → Type 0
Tells {X} IsAnswer tell old now = (answer : Result X Reason) × IsAnswer answer × (now ≡ told tell answer old)
