-- Marks by value: for each value from 0 to the maximum the sum of the bits of its modifiers.
-- Private contracts alone cite these definitions.
use Rattle.std.specs.Prelude.{ℕ, ◌≡◌, ◌≢◌, ◌≤◌, length, ◌+◌, ◌-◌, ◌%◌, Bool, true, false, ◌<◌, List, replicate, slice_index, slice_set, bit_and, bit_or}
use Rattle.std.specs.Int.{bit_at}
use Rattle.croner_base.specs.Field.{room, has_any}

pub record Marked : Type 0 where
  pub max : ℕ
  pub supported : ℕ
  pub marks : List ℕ

-- the value is marked with one of the bits
abbrev pub is_set : ℕ → Marked → ℕ → Bool
is_set bits f value = has_any (slice_index f.marks value) bits

-- the value has gained the bits, and lost them
abbrev pub set_at : Marked → ℕ → ℕ → Marked
set_at f value bits = record f { marks = slice_set f.marks value (bit_or (slice_index f.marks value) bits) }

abbrev pub unset_at : Marked → ℕ → ℕ → Marked
unset_at f value bits = record f { marks = slice_set f.marks value (bit_and (slice_index f.marks value) (255 - bits)) }

-- no value is marked
abbrev pub nothing_set : ℕ → ℕ → Marked
nothing_set max supported = record { max = max; supported = supported; marks = replicate (room max) 0 }

-- the values first, first + step, first + 2 * step, ..
abbrev pub Stepped : ℕ → ℕ → ℕ → Type 0
Stepped first step v = (first ≤ v) × ((v - first) % step ≡ 0)

-- those of some values that come before one
abbrev pub Before : (ℕ → Type 0) → ℕ → ℕ → Type 0
Before asked stop v = asked v × (v < stop)

-- first, first + step, first + 2 * step, .. up to last
abbrev pub SteppedTo : ℕ → ℕ → ℕ → ℕ → Type 0
SteppedTo first last step v = Before (Stepped first step) (last + 1) v

-- the values that are asked for have gained the bits, and nothing else has changed
pub record Gains (old new : Marked) (bits : ℕ) (asked : ℕ → Type 0) : Type 0 where
  pub max : new.max ≡ old.max
  pub supported : new.supported ≡ old.supported
  pub length : length new.marks ≡ length old.marks
  pub inside : (v : ℕ) → asked v → slice_index new.marks v ≡ bit_or (slice_index old.marks v) bits
  pub kept : (v : ℕ) → (asked v → ⊥) → slice_index new.marks v ≡ slice_index old.marks v

-- 1 where a modifier is put on a value, and 0 where it is taken off
abbrev pub digit : Bool → ℕ
digit true = 1
digit false = 0

-- a sum whose bits are put on or taken off
abbrev pub turned : Bool → ℕ → ℕ → ℕ
turned true sum bits = bit_or sum bits
turned false sum bits = bit_and sum (255 - bits)

-- of the values that are asked for, each modifier of the bits has become this: 1 on, 0 off; and nothing else has changed
pub record Turns (to : ℕ) (old new : Marked) (bits : ℕ) (asked : ℕ → Type 0) : Type 0 where
  pub max : new.max ≡ old.max
  pub supported : new.supported ≡ old.supported
  pub length : length new.marks ≡ length old.marks
  pub inside : (v k : ℕ) → asked v → bit_at bits k ≡ 1 → bit_at (slice_index new.marks v) k ≡ to
  pub kept : (v k : ℕ) → (asked v → bit_at bits k ≢ 1) → bit_at (slice_index new.marks v) k ≡ bit_at (slice_index old.marks v) k
