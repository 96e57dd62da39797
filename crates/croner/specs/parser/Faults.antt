-- What a refused text is told: the kind of its fault, and the place of the fault in the text as it was handed in.
use Rattle.std.specs.Prelude.{◌≡◌, ℕ, ◌+◌, ◌-◌, Bool, true, false, ◌||◌, nat_lt, ◌<◌, ◌≤◌, ◌==◌, List, [], ◌∷◌, length, take, drop, Option, Some, None, Result, Ok, Err, IsCharBoundary, slice_index_or, slice_range, if◌then◌else◌}
use Rattle.std.specs.Str.{chars, str_to_ascii_uppercase}
use Rattle.croner_base.specs.Part.{comma, contains_byte, pieces_at}
use Rattle.croner_base.specs.declared.errors.CronError.{CronError}
use Rattle.croner_base.specs.declared.errors.CronError.TheVariants.{OutOfMemory}
use Rattle.croner_pattern.specs.Meaning.{Meaning}
use Rattle.croner.specs.declared.parser.explain.ParseOutcome.{ParseOutcome}
use Rattle.croner.specs.declared.parser.explain.ParseOutcome.TheVariants as outcomes
use Rattle.croner.specs.declared.parser.fault.FaultKind.{FaultKind}
use Rattle.croner.specs.declared.parser.fault.FaultKind.TheVariants as kinds
use Rattle.croner.specs.declared.parser.fault.PatternField.{PatternField}
use Rattle.croner.specs.declared.parser.fault.PatternField.TheVariants as fields
use Rattle.croner.specs.declared.parser.fault.PatternFault.{PatternFault}
use Rattle.croner.specs.declared.parser.Seconds.TheVariants as seconds
use Rattle.croner.specs.declared.parser.Seconds.{Seconds}
use Rattle.croner.specs.declared.parser.Year.TheVariants as year
use Rattle.croner.specs.declared.parser.Year.{Year}
use Rattle.croner.specs.parser.Cut.{Piece, name_of}
use Rattle.croner.specs.parser.Grammar.{at_sign, Refusal, Empty, Invalid, Illegal, Component, outcome, takes, without_sign}
use Rattle.croner.specs.parser.Settings.{Settings}
use Rattle.croner.specs.parser.Words.{words}
use Rattle.croner.specs.Views.{job_of}

-- the kind of fault that a refusal is, and the field that refused the text
abbrev pub kind_of : Refusal → FaultKind
kind_of Empty = kinds.EmptyPattern
kind_of Invalid = kinds.InvalidPattern
kind_of (Illegal field) = kinds.IllegalCharacters
kind_of (Component field part) = kinds.ComponentError

-- the field that refused the text, where one did
abbrev pub refused_by : Refusal → Option PatternField
refused_by Empty = None
refused_by Invalid = None
refused_by (Illegal field) = Some field
refused_by (Component field part) = Some field

-- the place of a field among seven
abbrev pub place_of_field : PatternField → ℕ
place_of_field fields.Seconds = 0
place_of_field fields.Minutes = 1
place_of_field fields.Hours = 2
place_of_field fields.DayOfMonth = 3
place_of_field fields.Month = 4
place_of_field fields.Weekday = 5
place_of_field fields.Year = 6

-- the field that a fault names; a text with `@` may get fields that are not written in it, so that no word of it is a field's
abbrev pub named_field : List ℕ → Refusal → Option PatternField
named_field text refusal = if contains_byte at_sign text then None else refused_by refusal

-- ---- the place

-- the bytes from start to end are the whole word of that number, from 1: the words in front of it, it, and those after it are
-- as many as the text has
pub record IsWord (text : List ℕ) (number start end : ℕ) : Type 0 where
  pub one_word : words (slice_range text start end) ≡ slice_range text start end ∷ []
  pub its_number : length (words (take start text)) + 1 ≡ number
  pub whole : number + length (words (drop end text)) ≡ length (words text)

-- how many fields in front are not written: five words begin with the minutes
abbrev pub unwritten : List ℕ → ℕ
unwritten text = if length (words text) == 5 then 1 else 0

-- the place of a field's word among the words of a text, from 0; and the word at a place
abbrev pub place_of_word : List ℕ → PatternField → ℕ
place_of_word text field = place_of_field field - unwritten text

-- the word at a place
abbrev pub word_at : List ℕ → ℕ → List ℕ
word_at text place = slice_index_or (words text) place []

-- the bytes from start to end are a piece of one word, and that word is the field's; a text with `@` may get fields that
-- are not written in it, so that no word of it is a field's
pub record IsInField (text : List ℕ) (field : PatternField) (start end : ℕ) : Type 0 where
  pub all_written : contains_byte at_sign text ≡ false
  pub one_word : words (slice_range text start end) ≡ slice_range text start end ∷ []
  pub its_word : length (words (take end text)) + unwritten text ≡ place_of_field field + 1

abbrev pub IsInNamed : List ℕ → Option PatternField → ℕ → ℕ → Type 0
IsInNamed text None start end = Unit {0}
IsInNamed text (Some field) start end = IsInField text field start end

-- the most fields that settings accept, 0 where they accept no text
abbrev pub most_fields : Seconds → Year → ℕ
most_fields seconds.Optional year.Optional = 7
most_fields seconds.Optional year.Required = 7
most_fields seconds.Optional year.Disallowed = 6
most_fields seconds.Required year.Optional = 7
most_fields seconds.Required year.Required = 7
most_fields seconds.Required year.Disallowed = 6
most_fields seconds.Disallowed year.Optional = 5
most_fields seconds.Disallowed year.Required = 0
most_fields seconds.Disallowed year.Disallowed = 5

-- a wrong count is a fault of the whole text where it has an `@`, and where the settings accept no text
abbrev pub is_whole : Settings → List ℕ → Bool
is_whole s text = contains_byte at_sign text || most_fields s.seconds_field s.year_field == 0

-- else it is one of a word, by its number from 1: the first one too many, or the last of too few
abbrev pub counted_word : Settings → List ℕ → ℕ
counted_word s text =
    let most = most_fields s.seconds_field s.year_field in
    let count = length (words text) in
    if nat_lt most count then most + 1 else count

pub record IsCounted (s : Settings) (text : List ℕ) (start end : ℕ) : Type 0 where
  pub from_start : is_whole s text ≡ true → start ≡ 0
  pub to_end : is_whole s text ≡ true → end ≡ length text
  pub word : is_whole s text ≡ false → IsWord text (counted_word s text) start end

-- ---- an illegal character

-- a name is legal in each field
abbrev pub after_name : Option Piece → List ℕ → List ℕ → List ℕ
after_name None other rest = other
after_name (Some name) other rest = rest

-- a word in capitals from its first character on that the field doesn't take and that is in no name; nothing where it has none
abbrev pub from_illegal : PatternField → List ℕ → List ℕ
from_illegal field [] = []
from_illegal field (a ∷ []) = if takes field a then [] else a ∷ []
from_illegal field (a ∷ b ∷ []) = if takes field a then (if takes field b then [] else b ∷ []) else a ∷ b ∷ []
from_illegal field (a ∷ b ∷ c ∷ rest) =
    after_name (name_of (a ∷ b ∷ c ∷ [])) (if takes field a then from_illegal field (b ∷ c ∷ rest) else a ∷ b ∷ c ∷ rest) (from_illegal field rest)

-- the word of a field, in capitals; and what stands from a byte on to the end of its word
abbrev pub word_of : List ℕ → PatternField → List ℕ
word_of text field = str_to_ascii_uppercase (word_at text (place_of_word text field))

abbrev pub rest_of_word : List ℕ → ℕ → List ℕ
rest_of_word text start = str_to_ascii_uppercase (word_at (drop start text) 0)

-- one character; where no `@` hides the fields it is the first of the field's word that the field doesn't take, and the word's
-- sign in front is not asked for
pub record IsIllegal (text : List ℕ) (field : PatternField) (start end : ℕ) : Type 0 where
  pub one : length (chars (slice_range text start end)) ≡ 1
  pub first : contains_byte at_sign text ≡ false → from_illegal field (without_sign field (word_of text field)) ≡ rest_of_word text start

-- ---- a refused part

-- the field's word up to a byte
abbrev pub front_of_word : List ℕ → PatternField → ℕ → List ℕ
front_of_word text field end = word_at (take end text) (place_of_word text field)

-- the bytes from start to end have no comma; where no `@` hides the fields they lie in that part of the field's word, from 0
pub record IsInPart (text : List ℕ) (field : PatternField) (part start end : ℕ) : Type 0 where
  pub one_part : contains_byte comma (slice_range text start end) ≡ false
  pub its_part : contains_byte at_sign text ≡ false → length (pieces_at comma (front_of_word text field end)) ≡ part + 1

-- ---- the whole

-- the least piece that is meant: the whole of an empty pattern, the word of a wrong count, the first illegal character, and a
-- piece of the part of a list that can't be read
abbrev pub IsLeast : Settings → Refusal → List ℕ → ℕ → ℕ → Type 0
IsLeast s Empty text start end = (start ≡ 0) × (end ≡ length text)
IsLeast s Invalid text start end = IsCounted s text start end
IsLeast s (Illegal field) text start end = IsIllegal text field start end
IsLeast s (Component field part) text start end = IsInPart text field part start end

-- the place of a fault: whole characters of the text, at least one where there is one, the least piece that is meant; it lies
-- in the field that is named, and has an `@` where the text has one; and its first character, counted from 1
pub record IsPlaced (s : Settings) (text : List ℕ) (refusal : Refusal) (fault : PatternFault) : Type 0 where
  pub starts : IsCharBoundary text fault.start
  pub ends : IsCharBoundary text fault.end
  pub order : fault.start ≤ fault.end
  pub some : 0 < length text → fault.start < fault.end
  pub least : IsLeast s refusal text fault.start fault.end
  pub field : IsInNamed text fault.field fault.start fault.end
  pub sign : contains_byte at_sign text ≡ true → contains_byte at_sign (slice_range text fault.start fault.end) ≡ true
  pub character : fault.character ≡ length (chars (take fault.start text)) + 1

-- a fault that tells of a refusal: its kind, the field that refused the text, and its place
pub record IsFault (s : Settings) (text : List ℕ) (refusal : Refusal) (fault : PatternFault) : Type 0 where
  pub kind : fault.kind ≡ kind_of refusal
  pub named : fault.field ≡ named_field text refusal
  pub placed : IsPlaced s text refusal fault

-- what a text is explained by: nothing where it has a meaning, else a fault of its refusal; the one error is lack of memory
abbrev pub Explains : Settings → List ℕ → Result (Option PatternFault) CronError → Type 0
Explains s text (Err e) = e ≡ OutOfMemory
Explains s text (Ok None) = (m : Meaning) × (outcome s text ≡ Ok m)
Explains s text (Ok (Some fault)) = (refusal : Refusal) × (outcome s text ≡ Err refusal) × IsFault s text refusal fault

-- what a text is read as: a job of its meaning, or a fault of its refusal
abbrev pub IsParseOutcome : Settings → List ℕ → ParseOutcome → Type 0
IsParseOutcome s text (outcomes.Accepted job) = outcome s text ≡ Ok (job_of job)
IsParseOutcome s text (outcomes.Refused fault) = (refusal : Refusal) × (outcome s text ≡ Err refusal) × IsFault s text refusal fault
