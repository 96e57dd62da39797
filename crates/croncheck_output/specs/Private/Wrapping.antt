-- Lines word by word: what each word puts after those before it.
use Rattle.std.specs.Prelude.{ℕ, ◌+◌, nat_le, Bool, List, [], ◌∷◌, ◌++◌, length, Option, Some, None, if◌then◌else◌}

-- a line of so many bytes takes a word
abbrev pub takes : ℕ → ℕ → List ℕ → Bool
takes most used word = nat_le (used + (1 + length word)) most

-- what stands in front of a word after a line of so many bytes, if one is begun
abbrev pub front_of : ℕ → List ℕ → Option ℕ → List ℕ → List ℕ
front_of most between None word = []
front_of most between (Some used) word = if takes most used word then 32 ∷ [] else between

-- how many bytes the line has then
abbrev pub length_with_word : ℕ → Option ℕ → List ℕ → ℕ
length_with_word most None word = length word
length_with_word most (Some used) word = if takes most used word then used + (1 + length word) else length word

-- what words put after a line of so many bytes
abbrev pub pieces : ℕ → List ℕ → Option ℕ → List (List ℕ) → List ℕ
pieces most between used [] = []
pieces most between used (w ∷ ws) = front_of most between used w ++ (w ++ pieces most between (Some (length_with_word most used w)) ws)
