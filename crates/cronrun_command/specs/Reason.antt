-- Why a listing has no further run. Source: this crate's documentation of the command line.
use Rattle.std.specs.Prelude.{Option, None, Some}
use Rattle.croner_base.specs.declared.errors.CronError.{CronError}
use Rattle.croner_base.specs.declared.errors.CronError.TheVariants.{TimeSearchLimitExceeded}

-- the fault that the listing keeps, or the limit where it keeps none
abbrev pub reason_of : Option CronError → CronError
reason_of None = TimeSearchLimitExceeded
reason_of (Some fault) = fault
