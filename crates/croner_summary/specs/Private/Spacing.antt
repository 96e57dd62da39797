-- Plain values that lie a step apart, and the one piece that names them. Private contracts alone cite these definitions.
use Rattle.std.specs.Prelude.{◌≡◌, ℕ, ◌≤◌, ◌<◌, ◌+◌, ◌-◌, true, false, ◌&&◌, ◌==◌, if◌then◌else◌}
use Rattle.croner_base.specs.Field.{Field}
use Rattle.croner_pattern.specs.Schedule.{is_plain}
use Rattle.croner_summary.specs.declared.phrase.Phrase.{Phrase}
use Rattle.croner_summary.specs.declared.phrase.Piece.{Piece}
use Rattle.croner_summary.specs.declared.phrase.Piece.TheVariants.{Every, EveryNth, Range, RangeNth}
use Rattle.croner_summary.specs.Lengths.{length_of, words_in}
use Rattle.croner_summary.specs.Order.{is_of_field}
use Rattle.croner_summary.specs.Says.{is_in, is_stepwise}

-- from a first value to a last one, the plain ones are those that are a whole number of steps from the first
abbrev pub LieEvenly : Field → ℕ → ℕ → ℕ → Type 0
LieEvenly f first last step = (value : ℕ) → first ≤ value → value ≤ last → is_plain f value ≡ is_stepwise step (value - first)

-- a piece names exactly the plain values within the bounds
abbrev pub NamesPlain : ℕ → ℕ → Field → Piece → Type 0
NamesPlain least greatest f piece = (value : ℕ) → least ≤ value → value ≤ greatest → is_in least greatest piece value ≡ is_plain f value

-- the first, the second and the last plain value within the bounds
pub record AreEnds (least greatest : ℕ) (f : Field) (first second last : ℕ) : Type 0 where
  pub low : least ≤ first
  pub order : first < second
  pub fits : second ≤ last
  pub high : last ≤ greatest
  pub first_plain : is_plain f first ≡ true
  pub second_plain : is_plain f second ≡ true
  pub last_plain : is_plain f last ≡ true
  pub before : (value : ℕ) → least ≤ value → value < first → is_plain f value ≡ false
  pub between : (value : ℕ) → first < value → value < second → is_plain f value ≡ false
  pub after : (value : ℕ) → last < value → value ≤ greatest → is_plain f value ≡ false

-- no piece that names exactly the plain values has fewer words
abbrev pub IsShortestPiece : ℕ → ℕ → Field → Piece → Type 0
IsShortestPiece least greatest f piece = (other : Piece) → NamesPlain least greatest f other → words_in piece ≤ words_in other

-- no piece names exactly the plain values
abbrev pub NoPieceNames : ℕ → ℕ → Field → Type 0
NoPieceNames least greatest f = (piece : Piece) → NamesPlain least greatest f piece → ⊥

-- a piece of the field that names exactly the plain values, with no more words than any other
pub record IsBestPiece (least greatest : ℕ) (f : Field) (piece : Piece) : Type 0 where
  pub within : is_of_field least greatest piece ≡ true
  pub exact : NamesPlain least greatest f piece
  pub shortest : IsShortestPiece least greatest f piece

-- no single piece that names exactly the plain values has fewer words than the phrase
abbrev pub IsShortOf : ℕ → ℕ → Field → Phrase → Type 0
IsShortOf least greatest f phrase = (piece : Piece) → NamesPlain least greatest f piece → length_of phrase.pieces.items ≤ words_in piece

-- the piece that tells values a step apart
abbrev pub stepped_piece : ℕ → ℕ → ℕ → ℕ → ℕ → Piece
stepped_piece least greatest first last step =
    if step == 1 then (if first == least && last == greatest then Every else Range first last)
    else (if first == least && (is_stepwise step ((greatest + 1) - least) && last + step == greatest + 1) then EveryNth step else RangeNth first last step)
