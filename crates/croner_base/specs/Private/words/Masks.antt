-- Masks of words, and what marking does to the words.
-- Private contracts alone cite these definitions.
use Rattle.std.specs.Prelude.{ℕ, ◌≡◌, ◌+◌, ◌-◌, ◌*◌, ◌%◌, ◌<◌, ◌≤◌, List, slice_index}
use Rattle.std.specs.Int.{bit_at}
use Rattle.croner_base.specs.Private.words.Word.{word_bits}

-- the mask of word i has just the values that are looked for
pub record Masks (mask i : ℕ) (looked : ℕ → Type 0) : Type 0 where
  pub on : (b : ℕ) → b < word_bits → looked (i * word_bits + b) → bit_at mask b ≡ 1
  pub only : (b : ℕ) → b < word_bits → bit_at mask b ≡ 1 → looked (i * word_bits + b)

-- those from the given one on
abbrev pub MasksFrom : ℕ → ℕ → ℕ → Type 0
MasksFrom mask from i = Masks mask i (λ v. from ≤ v)

-- and those up to it
abbrev pub MasksTo : ℕ → ℕ → ℕ → Type 0
MasksTo mask to i = Masks mask i (λ v. v ≤ to)

-- the word has a bit for each multiple of the step
pub record MasksMultiples (mask step : ℕ) : Type 0 where
  pub on : (b : ℕ) → b < word_bits → b % step ≡ 0 → bit_at mask b ≡ 1
  pub only : (b : ℕ) → b < word_bits → bit_at mask b ≡ 1 → b % step ≡ 0

-- the bits of a word stand that many places higher
pub record StandsHigher (mask word by : ℕ) : Type 0 where
  pub below : (b : ℕ) → b < word_bits → b < by → bit_at mask b ≡ 0
  pub from : (b : ℕ) → b < word_bits → by ≤ b → bit_at mask b ≡ bit_at word (b - by)

-- in the row whose first word is at `start`, the bits of the values that are asked for have become this; no other bit has changed
pub record TurnsRow (to : ℕ) (old new : List ℕ) (start : ℕ) (asked : ℕ → Type 0) : Type 0 where
  pub inside : (i b : ℕ) → b < word_bits → asked (i * word_bits + b) → bit_at (slice_index new (start + i)) b ≡ to
  pub kept : (p b : ℕ) → b < word_bits → ((i : ℕ) → p ≡ start + i → asked (i * word_bits + b) → ⊥) → bit_at (slice_index new p) b ≡ bit_at (slice_index old p) b
