-- Days of a month as bits of a word, from the lowest bit for the 1st. Private contracts alone cite these definitions.
use Rattle.std.specs.Prelude.{◌≡◌, ℕ, ◌+◌, ◌<◌, Bool, ◌==◌}
use Rattle.std.specs.Int.{bit_at}

abbrev pub has_bit : ℕ → ℕ → Bool
has_bit word place = bit_at word place == 1

-- within a month of this length the word has exactly the days that pass the test
abbrev pub ShowsDays : ℕ → (ℕ → Bool) → ℕ → Type 0
ShowsDays len test word = (place : ℕ) → place < len → has_bit word place ≡ test (place + 1)
