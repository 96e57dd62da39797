-- The steps in which a text is cut and its fields are read. Private contracts alone cite these definitions.
use Rattle.std.specs.Prelude.{◌≡◌, ℕ, ◌<◌, ◌≤◌, ◌++◌, ◌==◌, Bool, true, false, List, Option, Some, None, MatchOption, option_map, Result, Ok, Err, slice_index, length, take, drop, string_bytes}
use Rattle.std.specs.declared.alloc.Global.{Global}
use Rattle.std.specs.declared.string.String.{String}
use denote.Ref.{Bor}
use Rattle.std.specs.Str.{IsUtf8}
use Rattle.croner_base.specs.Field.{Shape, Field, empty_field, can_ask, can_mark}
use Rattle.croner_base.specs.Part.{field_of, refused_part}
use Rattle.croner_base.specs.Reading.{Reading, applied}
use Rattle.croner_pattern.specs.Meaning.{Meaning}
use Rattle.croner_pattern.specs.Shapes.{sixty_shape, hour_shape, day_shape, month_shape, year_shape, new_meaning}
use Rattle.croner.specs.declared.parser.settle.Settled.{Settled}
use Rattle.croner.specs.declared.parser.fields.FieldTexts.{FieldTexts}
use Rattle.croner.specs.declared.parser.stop.Cause.{Cause}
use Rattle.croner.specs.declared.parser.stop.Cause.TheVariants as causes
use Rattle.croner.specs.declared.parser.stop.Stop.{Stop}
use Rattle.croner.specs.declared.parser.stop.Stop.TheVariants as stops
use Rattle.croner.specs.declared.parser.fault.PatternField.{PatternField}
use Rattle.croner.specs.parser.Cut.{Piece, name_of, shown, is_dash, decimal_of, replaced}
use Rattle.croner.specs.parser.Faults.{from_illegal}
use Rattle.croner.specs.parser.Grammar.{Texts, Refusal, Empty, Invalid, Illegal, Component, unread, outcome, of_fields, fields_of, starred, without_plus, are_read, value_of, weekdays_of}
use Rattle.croner.specs.parser.Settings.{Settings}
use Rattle.croner.specs.parser.Words.{words}
use Rattle.croner.specs.Views.{texts_of}

-- ---- refusals

-- the refusal that a cause is
abbrev pub refusal_of : Cause → Refusal
refusal_of causes.Empty = Empty
refusal_of causes.Invalid = Invalid
refusal_of (causes.Illegal field) = Illegal field
refusal_of (causes.Component field part) = Component field part

-- a reading stopped since its text is refused so, or for lack of memory, which says nothing of the text
abbrev pub Stops : {Y : Type 0} → Stop → Result Y Refusal → Type 0
Stops (stops.Refused cause) meaning = meaning ≡ Err (refusal_of cause)
Stops stops.OutOfMemory meaning = Unit {0}

-- what was read, seen by view, is the meaning, unless the reading stopped
abbrev pub Reads : {X Y : Type 0} → (X → Y) → Result X Stop → Result Y Refusal → Type 0
Reads view (Ok x) meaning = meaning ≡ Ok (view x)
Reads view (Err stop) meaning = Stops stop meaning

-- ---- the way of a text

-- the text in which names are numbers means by its fields what the given one means, or the given one is refused
abbrev pub Prepares : Settings → List ℕ → Result (String Global) Stop → Type 0
Prepares s given (Ok text) = outcome s given ≡ of_fields s (string_bytes text) (fields_of s (words (string_bytes text)))
Prepares s given (Err e) = Stops {Y = Meaning} e (outcome s given)

-- the fields of the text, or the text is refused
abbrev pub Splits : Settings → List ℕ → Result FieldTexts Stop → Type 0
Splits s text (Ok t) = fields_of s (words text) ≡ Some (texts_of t)
Splits s text (Err e) = Stops {Y = Meaning} e (of_fields s text (fields_of s (words text)))

-- a day field stays, or its copy is the field without its signs
pub record IsSettled (written : Texts) (s : Settled) : Type 0 where
  pub days : MatchOption s.days (starred written.days ≡ written.days) (λ t. string_bytes t ≡ starred written.days)
  pub days_of_week : MatchOption s.days_of_week (starred (without_plus written.days_of_week) ≡ without_plus written.days_of_week) (λ t. string_bytes t ≡ starred (without_plus written.days_of_week))

-- ---- the cut

-- a text in front of another, where there is one
abbrev pub with_front : List ℕ → Option (List ℕ) → Option (List ℕ)
with_front front rest = option_map (λ text. front ++ text) rest

-- the text begins with a dash
abbrev pub has_dash : List ℕ → Bool
has_dash text = slice_index text 0 == 45

-- the number n is shown for the name
abbrev pub IsShown : Bool → Bool → List ℕ → ℕ → Type 0
IsShown quartz after_dash name n =
    (p : Piece) × (name_of name ≡ Some p) × (shown quartz after_dash p ≡ decimal_of n) × (is_dash p ≡ false) × (n < 20)

-- no name stands first in the text
abbrev pub HasNoName : List ℕ → Type 0
HasNoName text = name_of (take 3 text) ≡ None

-- the text begins with a name, and the rest stands after it
pub record IsAfterName (text rest : List ℕ) : Type 0 where
  pub name : Piece
  pub begins : name_of (take 3 text) ≡ Some name
  pub some : 3 ≤ length text
  pub back : rest ≡ drop 3 text

-- the text begins with what the field takes, a name or a character, and the rest stands after it
pub record IsAfterLegal (field : PatternField) (text rest : List ℕ) : Type 0 where
  pub shorter : length rest < length text
  pub same : from_illegal field text ≡ from_illegal field rest

-- what stands for the first piece of the text was put after what was written, and the rest is left
pub record Advances (quartz after_dash : Bool) (text written now rest : List ℕ) : Type 0 where
  pub shorter : length rest < length text
  pub is_text : IsUtf8 rest
  pub same : with_front written (replaced quartz after_dash text) ≡ with_front now (replaced quartz (has_dash text) rest)

-- the same, or nothing where the text begins with a letter that stands for nothing
abbrev pub AdvancesOrLost : Bool → Bool → List ℕ → List ℕ → List ℕ → Option (Bor (List ℕ)) → Type 0
AdvancesOrLost quartz after_dash text written now None = replaced quartz after_dash text ≡ None
AdvancesOrLost quartz after_dash text written now (Some rest) = Advances quartz after_dash text written now rest.now

-- ---- the fields

-- a mark of weekday 7 can be moved to weekday 0
pub record TakesSunday (shape : Shape) (bit : ℕ) : Type 0 where
  pub offset_is : shape.offset ≡ 0
  pub asked : can_ask shape 7 bit ≡ true
  pub left : can_mark shape 7 bit ≡ true
  pub reached : can_mark shape 0 bit ≡ true

-- a pattern before its fields are read
abbrev pub start_meaning : Settings → List ℕ → Meaning
start_meaning s text = record (new_meaning text) { days_of_week = empty_field (weekdays_of s) }

-- the same after each field was read
abbrev pub read_meaning : Settings → List ℕ → Texts → Meaning
read_meaning s text t = record (new_meaning text) {
  seconds = value_of s sixty_shape t.seconds;
  minutes = value_of s sixty_shape t.minutes;
  hours = value_of s hour_shape t.hours;
  days = value_of s day_shape t.days;
  months = value_of s month_shape t.months;
  days_of_week = value_of s (weekdays_of s) t.days_of_week;
  years = value_of s year_shape t.years;
}

-- a field refused its text at a part of it, or memory ran out
abbrev pub StopsField : Reading → ℕ → PatternField → Stop → Type 0
StopsField reading part field (stops.Refused cause) = (reading.accepted ≡ false) × (cause ≡ causes.Component field part)
StopsField reading part field stops.OutOfMemory = Unit {0}

-- a field was read
abbrev pub ReadsField : Shape → List ℕ → Field → Field → PatternField → Result (Unit {0}) Stop → Type 0
ReadsField f text old new field (Ok x) = ((field_of f text).accepted ≡ true) × (new ≡ applied (field_of f text).done old)
ReadsField f text old new field (Err stop) = StopsField (field_of f text) (refused_part f text) field stop

-- the first of seven fields that isn't accepted refused its text, or memory ran out
abbrev pub StopsOne : Settings → Texts → Stop → Type 0
StopsOne s t (stops.Refused cause) = (are_read s t ≡ false) × (refusal_of cause ≡ unread s t)
StopsOne s t stops.OutOfMemory = Unit {0}

-- each field was read
abbrev pub ReadsAll : Settings → List ℕ → Texts → Meaning → Result (Unit {0}) Stop → Type 0
ReadsAll s text t new (Ok x) = (are_read s t ≡ true) × (new ≡ read_meaning s text t)
ReadsAll s text t new (Err stop) = StopsOne s t stop
