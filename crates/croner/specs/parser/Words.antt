-- The words of a text: its pieces between white space, by Unicode's property White_Space.
use Rattle.std.specs.Prelude.{◌≡◌, ℕ, ◌<◌, List, [], ◌∷◌, ◌++◌, length, map, filter, nat_lt}
use Rattle.std.specs.List.{slice_split}
use Rattle.std.specs.Char.{is_whitespace, is_not_whitespace}
use Rattle.std.specs.Str.{NoCharPasses, EmptyOrStartsWithPassing, chars, encode_utf8_all}

-- the word stands first in the text, after a gap, and the rest is empty or begins with white space
pub record StartsWith (text word rest : List ℕ) : Type 0 where
  pub gap : List ℕ
  pub spells : text ≡ gap ++ (word ++ rest)
  pub some : 0 < length word
  pub is_gap : NoCharPasses is_not_whitespace gap
  pub is_word : NoCharPasses is_whitespace word
  pub ends : (more : List ℕ) × EmptyOrStartsWithPassing is_whitespace rest more

-- these are the words of the text, in order; each text has one such list
abbrev pub AreWords : List ℕ → List (List ℕ) → Type 0
AreWords text [] = NoCharPasses is_not_whitespace text
AreWords text (w ∷ ws) = (rest : List ℕ) × StartsWith text w rest × AreWords rest ws

-- of characters: the text is split at each one that is white space, and empty pieces are dropped
abbrev pub words_of_chars : List ℕ → List (List ℕ)
words_of_chars cs = filter (λ w. nat_lt 0 (length w)) (slice_split is_whitespace cs)

-- the words of a text
abbrev pub words : List ℕ → List (List ℕ)
words text = map encode_utf8_all (words_of_chars (chars text))
