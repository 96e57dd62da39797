-- Why a call is refused.
use Rattle.std.specs.Prelude.{◌≡◌, ◌⊎◌, ℤ, Option, None, Result, Ok, Err}
use Rattle.croner_base.specs.declared.errors.CronError.{CronError}
use Rattle.croner_base.specs.declared.errors.CronError.TheVariants.{InvalidTime, OutOfMemory}
use Rattle.croner_pattern.specs.Meaning.{Meaning}
use Rattle.croner.specs.parser.Gives.{Fails}
use Rattle.croner.specs.parser.Grammar.{Refusal}

-- the pattern is refused, and the error is of its kind; or it is accepted, and memory ran out
abbrev pub IsUnread : Result Meaning Refusal → CronError → Type 0
IsUnread (Err refusal) e = Fails {Y = Meaning} e (Err refusal)
IsUnread (Ok pattern) e = e ≡ OutOfMemory

-- the pattern is refused, and the error is of its kind; or it is accepted, and the date and time names no instant; or memory
-- ran out
abbrev pub IsUnopened : Result Meaning Refusal → Option ℤ → CronError → Type 0
IsUnopened (Err refusal) start e = Fails {Y = Meaning} e (Err refusal)
IsUnopened (Ok pattern) start e = ((e ≡ InvalidTime) × (start ≡ None)) ⊎ (e ≡ OutOfMemory)
