-- The lines of a file: each up to a line feed and with it; the last may lack it.
use Rattle.std.specs.Prelude.{◌≡◌, ◌<◌, ℕ, Bool, List, [], ◌∷◌, length, Option, Some, IfSome}
use Rattle.std.specs.Io.BufRead.{take_through, drop_through, strip_last, ends_with_byte}

-- a line feed
abbrev pub feed : ℕ
feed = 10

-- these are the lines of the text, in order; each text has one such list
abbrev pub AreLines : List ℕ → List (List ℕ) → Type 0
AreLines text [] = text ≡ []
AreLines text (line ∷ lines) = (0 < length text) × (line ≡ take_through feed text) × AreLines (drop_through feed text) lines

-- the first line of what is left of a text was read, where a line is left: it is empty where none is
abbrev pub ReadsLine : Option (List ℕ) → Option (List ℕ) → List ℕ → Type 0
ReadsLine old new line = IfSome old (λ text. (line ≡ take_through feed text) × (new ≡ Some (drop_through feed text)))

-- a line without its line feed
abbrev pub without_line_feed : List ℕ → List ℕ
without_line_feed line = strip_last feed line

-- a line has a line feed
abbrev pub is_fed : List ℕ → Bool
is_fed line = ends_with_byte feed line
