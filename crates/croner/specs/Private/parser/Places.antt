-- What a refused text has where it is refused, and where its words stand. Private contracts alone cite these definitions.
use Rattle.std.specs.Prelude.{◌≡◌, ℕ, suc, zero, ◌+◌, ◌<◌, ◌≤◌, ◌==◌, Bool, true, false, not, List, [], ◌∷◌, ◌++◌, length, map, drop, IsCharBoundary, slice_range, if◌then◌else◌}
use Rattle.std.specs.Char.{IsScalar, encode_utf8, is_whitespace}
use Rattle.std.specs.Str.{IsUtf8, EmptyOrStartsWithPassing, str_to_ascii_uppercase}
use Rattle.croner_base.specs.Part.{comma, contains_byte, pieces_at}
use Rattle.croner.specs.declared.parser.fault.PatternField.{PatternField}
use Rattle.croner.specs.declared.parser.pieces.Piece.{Piece}
use Rattle.croner.specs.parser.Faults.{IsInNamed, IsLeast, from_illegal, named_field, place_of_field, place_of_word, unwritten, word_at, word_of}
use Rattle.croner.specs.parser.Grammar.{Refusal, Empty, Invalid, Illegal, Component, at_sign, without_sign}
use Rattle.croner.specs.parser.Settings.{Settings}
use Rattle.croner.specs.parser.Words.{AreWords, StartsWith, words}

-- ---- what a refused text has

-- a list has a part at that place, from 0, that isn't empty
abbrev pub has_part : ℕ → List ℕ → Bool
has_part part [] = false
has_part zero (c ∷ cs) = not (c == comma)
has_part (suc part) (c ∷ cs) = if c == comma then has_part part cs else has_part (suc part) cs

-- a field is written
pub record IsWritten (text : List ℕ) (field : PatternField) : Type 0 where
  pub reaches : unwritten text ≤ place_of_field field
  pub within : place_of_word text field < length (words text)

-- a text that is refused has a word; or a word of the field with a character that the field doesn't take, or with the part
-- that the field can't read
abbrev pub HasCause : List ℕ → Refusal → Type 0
HasCause text Empty = Unit {0}
HasCause text Invalid = 0 < length (words text)
HasCause text (Illegal field) = IsWritten text field × (0 < length (from_illegal field (without_sign field (word_of text field))))
HasCause text (Component field part) =
    IsWritten text field × (has_part part (without_sign field (word_at text (place_of_word text field))) ≡ true)

-- so it is, where no `@` hides the fields
abbrev pub HasCauseInSight : List ℕ → Refusal → Type 0
HasCauseInSight text refusal = contains_byte at_sign text ≡ false → HasCause text refusal

-- ---- where its words stand

-- nothing, or white space
abbrev pub Follows : List ℕ → Type 0
Follows rest = (more : List ℕ) × EmptyOrStartsWithPassing is_whitespace rest more

-- a text up to a byte has these words, and the rest stands after them
pub record IsWalked (text : List ℕ) (ws : List (List ℕ)) (from : ℕ) (rest : List ℕ) : Type 0 where
  pub done : List ℕ
  pub spells : text ≡ done ++ rest
  pub its_end : length done ≡ from
  pub are_words : AreWords done ws
  pub apart : 0 < length done → Follows rest
  pub utf8 : IsUtf8 rest

-- the word of a text at that place, from 0, begins at that byte
pub record IsWordFrom (text : List ℕ) (place start : ℕ) (word : List ℕ) : Type 0 where
  pub ws : List (List ℕ)
  pub from : ℕ
  pub rest : List ℕ
  pub after : List ℕ
  pub walked : IsWalked text ws from rest
  pub first : StartsWith rest word after
  pub its_place : length ws ≡ place
  pub its_start : from + length first.gap ≡ start

-- the pieces are the words of a text in their places, from the one at that place on
abbrev pub ArePlaced : List ℕ → ℕ → List Piece → Type 0
ArePlaced text place [] = Unit {0}
ArePlaced text place (p ∷ ps) = IsWordFrom text place p.start p.text.now × ArePlaced text (place + 1) ps

-- these are the words of a text in their places
pub record AreItsWords (text : List ℕ) (pieces : List Piece) : Type 0 where
  pub all : map (λ p. p.text.now) pieces ≡ words text
  pub placed : ArePlaced text 0 pieces

-- ---- a piece of a word

-- the bytes of a text from start to end are whole characters
pub record IsPiece (text : List ℕ) (start end : ℕ) (piece : List ℕ) : Type 0 where
  pub front : List ℕ
  pub back : List ℕ
  pub spells : text ≡ front ++ (piece ++ back)
  pub its_start : length front ≡ start
  pub its_end : start + length piece ≡ end
  pub some : 0 < length piece
  pub piece_utf8 : IsUtf8 piece
  pub back_utf8 : IsUtf8 back

-- from a byte on the field doesn't take a word
pub record IsIllegalFrom (field : PatternField) (word : List ℕ) (start : ℕ) : Type 0 where
  pub starts : IsCharBoundary word start
  pub first : from_illegal field (without_sign field (str_to_ascii_uppercase word)) ≡ str_to_ascii_uppercase (drop start word)

-- the first character of a word that the field doesn't take
pub record IsFirstIllegal (field : PatternField) (word : List ℕ) (start end : ℕ) : Type 0 where
  pub from : IsIllegalFrom field word start
  pub c : ℕ
  pub rest : List ℕ
  pub its_end : start + length (encode_utf8 c) ≡ end
  pub is_scalar : IsScalar c
  pub begins : drop start word ≡ encode_utf8 c ++ rest
  pub rest_utf8 : IsUtf8 rest

-- the same of a word that begins at a byte of a text; nothing where the field takes all
abbrev pub IsIllegalIn : PatternField → List ℕ → ℕ → ℕ → ℕ → Type 0
IsIllegalIn field word at start end = (a : ℕ) × (b : ℕ) × (at + a ≡ start) × (at + b ≡ end) × IsFirstIllegal field word a b

-- a part of a list that isn't empty
pub record IsPartOf (text : List ℕ) (part start : ℕ) (piece : List ℕ) : Type 0 where
  pub is_piece : IsPiece text start (start + length piece) piece
  pub one : contains_byte comma piece ≡ false
  pub its_part : length (pieces_at comma is_piece.front) ≡ part + 1

-- the same of a list that begins at a byte of a text
abbrev pub IsPartIn : List ℕ → ℕ → ℕ → Piece → Type 0
IsPartIn list at part p = (a : ℕ) × (at + a ≡ p.start) × IsPartOf list part a p.text.now

-- bytes of a text lie within others, and are whole characters
pub record IsWithin (text : List ℕ) (least greatest start end : ℕ) : Type 0 where
  pub least_first : least ≤ start
  pub order : start < end
  pub greatest_last : end ≤ greatest
  pub starts : IsCharBoundary text start
  pub ends : IsCharBoundary text end

-- ---- the place of a fault

-- a place that a fault of the refusal may have
pub record IsFound (s : Settings) (text : List ℕ) (refusal : Refusal) (start end : ℕ) : Type 0 where
  pub starts : IsCharBoundary text start
  pub ends : IsCharBoundary text end
  pub order : start ≤ end
  pub some : 0 < length text → start < end
  pub least : IsLeast s refusal text start end
  pub field : IsInNamed text (named_field text refusal) start end
  pub sign : contains_byte at_sign text ≡ true → contains_byte at_sign (slice_range text start end) ≡ true
