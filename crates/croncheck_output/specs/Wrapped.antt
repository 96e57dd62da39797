-- Texts that are broken into lines. Source: this crate's documentation of `wrapped_text`.
use Rattle.std.specs.Prelude.{ℕ, ◌==◌, ◌||◌, nat_le, Bool, not, List, [], ◌∷◌, ◌++◌, length, if◌then◌else◌}
use Rattle.std.specs.List.{list_any, slice_split}

-- the words of a text: what stands between its spaces
abbrev pub words_of : List ℕ → List (List ℕ)
words_of text = slice_split (λ b. b == 32) text

-- a line and one more word
abbrev pub with_word : List ℕ → List ℕ → List ℕ
with_word line word = line ++ (32 ∷ word)

-- the line has at most so many bytes
abbrev pub fits : ℕ → List ℕ → Bool
fits most line = nat_le (length line) most

-- the lines of words after those of a line that is begun: it takes the next word where it has at most so many bytes with it, and else a line
-- begins with that word
abbrev pub lines_from : ℕ → List ℕ → List (List ℕ) → List (List ℕ)
lines_from most line [] = line ∷ []
lines_from most line (w ∷ ws) = if fits most (with_word line w) then lines_from most (with_word line w) ws else line ∷ lines_from most w ws

-- the lines of words
abbrev pub lines_of : ℕ → List (List ℕ) → List (List ℕ)
lines_of most [] = []
lines_of most (w ∷ ws) = lines_from most w ws

-- lines as one text, with the same between each two
abbrev pub joined : List ℕ → List (List ℕ) → List ℕ
joined between [] = []
joined between (line ∷ []) = line
joined between (line ∷ next ∷ lines) = line ++ (between ++ joined between (next ∷ lines))

-- a text in lines of at most so many bytes
abbrev pub wrapped_text : ℕ → List ℕ → List ℕ → List ℕ
wrapped_text most between text = joined between (lines_of most (words_of text))

-- a text is one word
abbrev pub is_word : List ℕ → Bool
is_word text = not (list_any (λ b. b == 32) text)

-- a line has at most so many bytes, or it is one word
abbrev pub is_within : ℕ → List ℕ → Bool
is_within most line = fits most line || is_word line
