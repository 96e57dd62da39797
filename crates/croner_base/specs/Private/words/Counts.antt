-- The marked values of one word.
-- Private contracts alone cite these definitions.
use Rattle.std.specs.Prelude.{ℕ, ◌≡◌, ◌+◌, ◌-◌, ◌*◌, ◌<◌, ◌==◌, ◌&&◌, Bool, nat_le, nat_lt, List}
use Rattle.std.specs.Int.{bit_at}
use Rattle.std.specs.List.{filter, range_with_len}
use Rattle.croner_base.specs.Field.{room}
use Rattle.croner_base.specs.Private.words.Marked.{Marked, is_set}
use Rattle.croner_base.specs.Private.words.Word.{word_bits}

-- the word has a bit for each value of word i that is marked with one of the bits; past the maximum its bits say nothing
abbrev pub ShowsMarked : Marked → ℕ → ℕ → ℕ → Type 0
ShowsMarked f bits i found =
    (b : ℕ) → b < word_bits → i * word_bits + b < room f.max → (bit_at found b == 1) ≡ is_set bits f (i * word_bits + b)

-- the value is a value from the first on that is marked with one of the bits
abbrev pub is_from : ℕ → ℕ → Marked → ℕ → Bool
is_from first bits f v = (nat_le first v && nat_lt v (room f.max)) && is_set bits f v

-- the word has a bit for each such value of word i, and no other
abbrev pub ShowsFrom : Marked → ℕ → ℕ → ℕ → ℕ → Type 0
ShowsFrom f bits first i found = (b : ℕ) → b < word_bits → (bit_at found b == 1) ≡ is_from first bits f (i * word_bits + b)

-- the values from the first on that are marked with one of the bits, in ascending order
abbrev pub marked_from : ℕ → ℕ → Marked → List ℕ
marked_from first bits f = filter (is_set bits f) (range_with_len first (room f.max - first))

-- the values whose bits a word has, as word i of a row
unfoldable pub values_in : ℕ → ℕ → List ℕ
values_in word i = filter (λ v. bit_at word (v - i * word_bits) == 1) (range_with_len (i * word_bits) word_bits)
