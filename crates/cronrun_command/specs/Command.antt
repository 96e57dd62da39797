-- The first word of a call for runs, and the text of a rule.
use Rattle.std.specs.Prelude.{ℕ, List, codes, IsSome}
use Rattle.croner_base.specs.declared.time.Direction.{Direction}
use Rattle.croner_base.specs.declared.time.Direction.TheVariants.{Forward, Backward}
use Rattle.jiff_tz.specs.PosixReader.{read_whole}

-- the command that lists in a direction
abbrev pub command_of : Direction → List ℕ
command_of Forward = codes "next"
command_of Backward = codes "prev"

-- the text is a zone's rule
abbrev pub IsRule : List ℕ → Type 0
IsRule text = IsSome (read_whole text)
