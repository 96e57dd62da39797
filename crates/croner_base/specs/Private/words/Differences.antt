-- Where two differ.
-- Private contracts alone cite these definitions.
use Rattle.std.specs.Prelude.{ℕ, ◌≡◌, ◌≢◌, ◌+◌, ◌*◌, ◌<◌, slice_index}
use Rattle.std.specs.Int.{bit_at}
use Rattle.croner_base.specs.Field.{room}
use Rattle.croner_base.specs.Private.words.Marked.{Marked}
use Rattle.croner_base.specs.Private.words.Word.{word_bits}

-- no value that both have has two sums
abbrev pub SameSums : Marked → Marked → Type 0
SameSums f g = (v : ℕ) → v < room f.max → v < room g.max → slice_index f.marks v ≡ slice_index g.marks v

pub record IsFirstDifference (f g : Marked) (v : ℕ) : Type 0 where
  pub in_first : v < room f.max
  pub in_second : v < room g.max
  pub differs : slice_index f.marks v ≢ slice_index g.marks v
  pub before : (u : ℕ) → u < v → slice_index f.marks u ≡ slice_index g.marks u

-- the word has a bit for each value of word i that has two sums
pub record ShowsDifferences (f g : Marked) (i found : ℕ) : Type 0 where
  pub same : (b : ℕ) → b < word_bits → i * word_bits + b < room f.max → i * word_bits + b < room g.max → bit_at found b ≡ 0 → slice_index f.marks (i * word_bits + b) ≡ slice_index g.marks (i * word_bits + b)
  pub differs : (b : ℕ) → b < word_bits → i * word_bits + b < room f.max → i * word_bits + b < room g.max → bit_at found b ≡ 1 → slice_index f.marks (i * word_bits + b) ≢ slice_index g.marks (i * word_bits + b)
