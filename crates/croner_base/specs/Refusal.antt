-- The texts of the errors.
use Rattle.std.specs.Prelude.{ℕ, List, ◌++◌, codes, string_bytes}
use Rattle.croner_base.specs.declared.errors.CronError.{CronError}
use Rattle.croner_base.specs.declared.errors.CronError.TheVariants.{EmptyPattern, InvalidDate, InvalidTime, TimeSearchLimitExceeded, InvalidPattern, IllegalCharacters, ComponentError, OutOfMemory}

-- the text of each error
abbrev pub text_of : CronError → List ℕ
text_of EmptyPattern = codes "CronPattern cannot be an empty string."
text_of InvalidDate = codes "CronScheduler encountered an invalid date."
text_of InvalidTime = codes "CronScheduler encountered an invalid time."
text_of TimeSearchLimitExceeded = codes "CronScheduler time search limit exceeded."
text_of (InvalidPattern m) = codes "Invalid pattern: " ++ string_bytes m
text_of (IllegalCharacters m) = codes "Pattern contains illegal characters: " ++ string_bytes m
text_of (ComponentError m) = codes "Component error: " ++ string_bytes m
text_of OutOfMemory = codes "Out of memory."
