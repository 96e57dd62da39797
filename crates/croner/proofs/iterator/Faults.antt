-- What an iterator keeps of a refusal.
use Rattle.std.proofs.Common.{◌≡◌, None, refl}
use Rattle.croner_base.specs.declared.errors.CronError.{CronError}
use Rattle.croner_base.specs.declared.errors.CronError.TheVariants.{EmptyPattern, InvalidDate, InvalidTime, TimeSearchLimitExceeded, InvalidPattern, IllegalCharacters, ComponentError, OutOfMemory}
use Rattle.croner.specs.iterator.Faults.{fault_of}

-- no fault is left by the limit alone
pub no_fault_is_limit : (e : CronError) → fault_of e ≡ None → e ≡ TimeSearchLimitExceeded
no_fault_is_limit TimeSearchLimitExceeded none = refl
no_fault_is_limit EmptyPattern none = absurd (cc)
no_fault_is_limit InvalidDate none = absurd (cc)
no_fault_is_limit InvalidTime none = absurd (cc)
no_fault_is_limit OutOfMemory none = absurd (cc)
no_fault_is_limit (InvalidPattern message) none = absurd (cc)
no_fault_is_limit (IllegalCharacters message) none = absurd (cc)
no_fault_is_limit (ComponentError message) none = absurd (cc)
