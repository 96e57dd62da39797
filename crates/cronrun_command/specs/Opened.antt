-- What a call begins from: an accepted pattern, and where a listing stands before its first run.
use Rattle.std.specs.Prelude.{◌≡◌, ℤ, false, Result, Ok, Some}
use Rattle.croner_base.specs.declared.time.Direction.{Direction}
use Rattle.croner_base.specs.declared.time.civil.CivilDateTime.{CivilDateTime}
use Rattle.croner_base.specs.Zone.{Zone, at_instant}
use Rattle.croner_pattern.specs.Meaning.{Meaning}
use Rattle.croner.specs.parser.Grammar.{Refusal}
use Rattle.croner.specs.iterator.Listing.{Standing, new_standing}
use Rattle.cronrun_command.specs.Start.{start_instant}

-- the pattern is accepted, and the date and time names the instant
abbrev pub OpensAt : Result Meaning Refusal → Zone → CivilDateTime → Meaning → ℤ → Type 0
OpensAt outcome zone at pattern start = (outcome ≡ Ok pattern) × (start_instant (zone.resolves at) ≡ Some start)

abbrev pub Opens : Result Meaning Refusal → Zone → CivilDateTime → Type 0
Opens outcome zone at = (pattern : Meaning) × (start : ℤ) × OpensAt outcome zone at pattern start

-- so it is, and the listing goes from that instant in the direction, without it
abbrev pub StandsAtStart : Result Meaning Refusal → Zone → CivilDateTime → Direction → Standing → Type 0
StandsAtStart outcome zone at direction standing =
    (pattern : Meaning) × (start : ℤ) × OpensAt outcome zone at pattern start
    × (standing ≡ new_standing pattern (at_instant zone start) false direction)
