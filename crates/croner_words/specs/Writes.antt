-- The answer of a call that writes a text.
use Rattle.std.specs.Prelude.{◌≡◌, ℕ, List, Result, MatchResult, string_bytes}
use Rattle.std.specs.declared.string.String.{String}
use Rattle.std.specs.declared.alloc.Global.{Global}
use Rattle.croner_base.specs.declared.errors.CronError.{CronError}
use Rattle.croner_base.specs.declared.errors.CronError.TheVariants.{OutOfMemory}

-- the text, or lack of memory
abbrev pub Writes : List ℕ → Result (String Global) CronError → Type 0
Writes text answer = MatchResult answer (λ s. string_bytes s ≡ text) (λ e. e ≡ OutOfMemory)
