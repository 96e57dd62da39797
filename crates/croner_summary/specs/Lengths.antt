-- How long a phrase is, and that it is short.
use Rattle.std.specs.Prelude.{◌≡◌, ℕ, ◌≤◌, true, List, map, sum, ⊤}
use Rattle.croner_summary.specs.declared.days.Days.{Days}
use Rattle.croner_summary.specs.declared.days.Days.TheVariants.{Every as EveryDay, OfMonth, OfWeek, Either, Both}
use Rattle.croner_summary.specs.declared.phrase.Phrase.{Phrase}
use Rattle.croner_summary.specs.declared.phrase.Piece.{Piece}
use Rattle.croner_summary.specs.declared.phrase.Piece.TheVariants.{Every, EveryNth, One, Range, RangeNth}
use Rattle.croner_summary.specs.declared.summary.Summary.{Summary}
use Rattle.croner_summary.specs.Says.{is_in, is_in_some, is_within}

-- how many words a piece has: `each`; `every` and a step; a value; two values; `every`, a step and two values
abbrev pub words_in : Piece → ℕ
words_in Every = 1
words_in (EveryNth n) = 2
words_in (One value) = 1
words_in (Range first last) = 2
words_in (RangeNth first last n) = 4

-- how many words pieces have
abbrev pub length_of : List Piece → ℕ
length_of pieces = sum (map words_in pieces)

-- no single piece that names the same values of a field has fewer words
abbrev pub IsShort : ℕ → ℕ → Phrase → Type 0
IsShort least greatest phrase =
    (piece : Piece)
    → ((value : ℕ) → is_within least greatest value ≡ true → is_in least greatest piece value ≡ is_in_some least greatest phrase.pieces.items value)
    → length_of phrase.pieces.items ≤ words_in piece

-- that of days by number, and of weekdays each time that they come
abbrev pub AreShort : Days → Type 0
AreShort EveryDay = ⊤
AreShort (OfMonth d) = IsShort 1 31 d.numbers
AreShort (OfWeek w) = IsShort 0 6 w.each
AreShort (Either d w) = IsShort 1 31 d.numbers × IsShort 0 6 w.each
AreShort (Both d w) = IsShort 1 31 d.numbers × IsShort 0 6 w.each

-- no single phrase that names the same values is shorter than one of the summary's
pub record IsShortlySaid (s : Summary) : Type 0 where
  pub seconds : IsShort 0 59 s.seconds
  pub minutes : IsShort 0 59 s.minutes
  pub hours : IsShort 0 23 s.hours
  pub days : AreShort s.days
  pub months : IsShort 1 12 s.months
  pub years : IsShort 1 5000 s.years
