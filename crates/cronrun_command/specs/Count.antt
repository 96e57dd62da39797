-- The text of a count of runs.
use Rattle.std.specs.Prelude.{◌≡◌, ℕ, List, true}
use Rattle.std.specs.Int.{IsInRange}
use Rattle.std.specs.Char.{is_ascii_digit}
use Rattle.std.specs.List.{list_all}
use Rattle.std.specs.Str.Parse.{digits_value}

-- the text is decimal digits alone, and the number that they write is n, from 1 to 1000
abbrev pub IsCountText : List ℕ → ℕ → Type 0
IsCountText text n = IsInRange 1 1000 n × (list_all is_ascii_digit text ≡ true) × (digits_value 10 text ≡ n)
