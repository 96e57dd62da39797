-- What a search on the wall clock reads of a pattern, as words of bits.
use Rattle.std.specs.Prelude.{◌≡◌, ℕ, ◌<◌, ◌==◌, true}
use Rattle.std.specs.Int.{bit_at}
use Rattle.croner_base.specs.Field.{Field, can_ask, is_marked}
use Rattle.croner_pattern.specs.Meaning.{Meaning}
use Rattle.croner_pattern.specs.declared.pattern.words.Unit.{Unit}
use Rattle.croner_pattern.specs.declared.pattern.words.Unit.TheVariants.{Second, Minute, Hour, Month}
pub use Rattle.croner_pattern.specs.Private.DayBits.{has_bit, ShowsDays}

-- the field of a unit
abbrev pub field_at : Meaning → Unit → Field
field_at m Second = m.seconds
field_at m Minute = m.minutes
field_at m Hour = m.hours
field_at m Month = m.months

-- of the values that the field holds the word has a bit for each plain one
abbrev pub ShowsPlain : Field → ℕ → Type 0
ShowsPlain f word = (v : ℕ) → v < 64 → can_ask f.shape v 1 ≡ true → (bit_at word v == 1) ≡ is_marked 1 f v
