-- Which error an answer is.
use Rattle.std.specs.Prelude.{◌≡◌, Bool, true, false, Result, Ok, Err, Option, Some, None, ⊤}
use Rattle.croner_base.specs.declared.errors.CronError.{CronError}
use Rattle.croner_base.specs.declared.errors.CronError.TheVariants.{ComponentError, OutOfMemory}

-- the error of a field, or lack of memory for its message
abbrev pub IsFieldError : CronError → Type 0
IsFieldError (ComponentError m) = ⊤
IsFieldError OutOfMemory = ⊤
IsFieldError other = ⊥

-- the call succeeds where the test is true, and else is refused by the error of a field
abbrev pub SucceedsIff : {X : Type 0} → Bool → Result X CronError → Type 0
SucceedsIff accepted (Ok x) = accepted ≡ true
SucceedsIff accepted (Err e) = (accepted ≡ false) × IsFieldError e

-- the call answers the value where there is one, and else is refused by the error of a field
abbrev pub Finds : {X Y : Type 0} → (X → Y) → Option Y → Result X CronError → Type 0
Finds view found (Ok x) = found ≡ Some (view x)
Finds view found (Err e) = (found ≡ None) × IsFieldError e
