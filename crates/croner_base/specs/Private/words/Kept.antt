-- Which words are used, and the rows that they have.
-- Private contracts alone cite these definitions.
use Rattle.std.specs.Prelude.{ℕ, ◌≡◌, ◌<◌, ◌≤◌, Bool, true, false, List, slice_index}
use Rattle.std.specs.Int.{bit_at}
use Rattle.croner_base.specs.Field.{room}
use Rattle.croner_base.specs.Private.words.Word.{word_bits}

-- the words, one row after another: those in place, or those on the heap
abbrev pub words_of : Bool → List ℕ → List ℕ → List ℕ
words_of true in_place on_heap = in_place
words_of false in_place on_heap = on_heap

-- the bits of the modifiers that have a row: of all eight in place, and of the supported ones on the heap
abbrev pub rows_of : Bool → ℕ → ℕ
rows_of true supported = 255
rows_of false supported = supported

-- where a row is one word, no word has a bit past the maximum
abbrev pub NonePast : List ℕ → ℕ → Type 0
NonePast words max = (p b : ℕ) → b < word_bits → room max ≤ b → bit_at (slice_index words p) b ≡ 0
