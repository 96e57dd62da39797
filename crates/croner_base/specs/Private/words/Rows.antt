-- Rows of words of 64 bits, one row for each supported modifier, one after another, with one bit a value.
-- Private contracts alone cite these definitions.
use Rattle.std.specs.Prelude.{ℕ, zero, suc, ◌+◌, ◌-◌, ◌*◌, ◌/◌, ◌%◌, ◌^◌, ◌==◌, Bool, List, slice_index, map}
use Rattle.std.specs.Int.{bit_at}
use Rattle.std.specs.List.{range_with_len}
use Rattle.croner_base.specs.Field.{room}
use Rattle.croner_base.specs.Private.words.Marked.{Marked}
use Rattle.croner_base.specs.Private.words.Word.{word_bits}

-- how many words a row has
abbrev pub width : ℕ → ℕ
width max = (room max + (word_bits - 1)) / word_bits

-- a row has the value
abbrev pub in_row : List ℕ → ℕ → Bool
in_row words v = bit_at (slice_index words (v / word_bits)) (v % word_bits) == 1

-- how many of the first k modifiers are supported
unfoldable pub rows_below : ℕ → ℕ → ℕ
rows_below supported zero = 0
rows_below supported (suc k) = rows_below supported k + bit_at supported k

-- 1 where modifier k is supported and its row has the value, and else 0
unfoldable pub mark_at : List ℕ → ℕ → ℕ → ℕ → ℕ → ℕ
mark_at words wide supported k v = bit_at supported k * bit_at (slice_index words (rows_below supported k * wide + v / word_bits)) (v % word_bits)

-- the number of n bits that has these
unfoldable pub number_of : (ℕ → ℕ) → ℕ → ℕ
number_of bit zero = 0
number_of bit (suc n) = number_of bit n + bit n * 2 ^ n

-- the sum of the bits of the first k modifiers that the value has
abbrev pub sum_below : List ℕ → ℕ → ℕ → ℕ → ℕ → ℕ
sum_below words wide supported k v = number_of (λ j. mark_at words wide supported j v) k

-- for each value from 0 to the maximum its sum
unfoldable pub sums_of : List ℕ → ℕ → ℕ → List ℕ
sums_of words max supported = map (sum_below words (width max) supported 8) (range_with_len 0 (room max))

-- the marks that the words keep, with a row for each of these modifiers
abbrev pub marks_in : List ℕ → ℕ → ℕ → Marked
marks_in words max supported = record { max = max; supported = supported; marks = sums_of words max supported }
