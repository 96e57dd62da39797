-- The errors that an iterator keeps.
use Rattle.std.specs.Prelude.{◌≡◌, ◌⊎◌, Bool, true, false, IsTrue, Option, Some, None}
use Rattle.croner_base.specs.declared.errors.CronError.{CronError}
use Rattle.croner_base.specs.declared.errors.CronError.TheVariants.{InvalidDate, InvalidTime, TimeSearchLimitExceeded, OutOfMemory}

-- no error, or a refusal of a search that is not the limit
abbrev pub is_kept : Option CronError → Bool
is_kept None = true
is_kept (Some InvalidDate) = true
is_kept (Some InvalidTime) = true
is_kept (Some OutOfMemory) = true
is_kept other = false

-- the error that a call without an item keeps: none for the limit, else the very one that refused its search
abbrev pub fault_of : CronError → Option CronError
fault_of TimeSearchLimitExceeded = None
fault_of refusal = Some refusal

-- no error, or lack of memory where the backend can lack it
abbrev pub IsMemoryAlone : Bool → Option CronError → Type 0
IsMemoryAlone lack fault = (fault ≡ None) ⊎ ((fault ≡ Some OutOfMemory) × IsTrue lack)
