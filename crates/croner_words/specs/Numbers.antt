-- How numbers are written in a text.
use Rattle.std.specs.Prelude.{ℕ, List, ◌++◌, codes, Option, Some, None}
use Rattle.croner_base.specs.CivilText.{two_places}

-- hours and minutes, and seconds where there are any
abbrev pub clock_text : ℕ → ℕ → Option ℕ → List ℕ
clock_text hour minute None = two_places hour ++ codes ":" ++ two_places minute
clock_text hour minute (Some second) = two_places hour ++ codes ":" ++ two_places minute ++ codes ":" ++ two_places second
