-- When pieces name exactly the values that a field marks. Private contracts alone cite these definitions.
use Rattle.std.specs.Prelude.{◌≡◌, ℕ, zero, suc, ◌≤◌, ◌<◌, ◌+◌, ◌-◌, Bool, true, false, ◌&&◌, List, [], ◌∷◌, if◌then◌else◌}
use Rattle.std.specs.List.{list_all}
use Rattle.croner_base.specs.Field.{Field}
use Rattle.croner_pattern.specs.Schedule.{is_named, is_plain}
use Rattle.croner_summary.specs.declared.phrase.Piece.{Piece}
use Rattle.croner_summary.specs.declared.phrase.Piece.TheVariants.{One}
use Rattle.croner_summary.specs.declared.phrase.Phrase.{Phrase}
use Rattle.croner_summary.specs.Order.{beside_step, is_of_field, rise_from, times_named}
use Rattle.croner_summary.specs.Says.{is_in, is_in_some, is_stepwise, is_within, names}

-- up to a value, pieces name what the field has marked
abbrev pub AgreeBelow : ℕ → ℕ → List Piece → ℕ → Field → ℕ → Type 0
AgreeBelow least greatest pieces bit f end =
    (value : ℕ) → least ≤ value → value < end → is_in_some least greatest pieces value ≡ is_named bit f value

-- up to a value, each value is named once at most
abbrev pub NameOnceBelow : ℕ → ℕ → List Piece → ℕ → Type 0
NameOnceBelow least greatest pieces end = (value : ℕ) → least ≤ value → value < end → times_named least greatest pieces value ≤ 1

-- pieces name a value as they are to: once, or not at all
pub record NamesRightly (least greatest : ℕ) (pieces : List Piece) (value : ℕ) (named : Bool) : Type 0 where
  pub agrees : is_in_some least greatest pieces value ≡ named
  pub once : times_named least greatest pieces value ≤ 1

-- pieces lie in their field and rise
pub record RiseWithin (least greatest : ℕ) (pieces : List Piece) : Type 0 where
  pub within : list_all (λ piece. is_of_field least greatest piece) pieces ≡ true
  pub rising : rise_from least greatest least (beside_step pieces) ≡ true

-- of so many values from one on, those that pass a test, each by itself
unfoldable pub ones_from : (ℕ → Bool) → ℕ → ℕ → List Piece
ones_from test from zero = []
ones_from test from (suc count) = if test from then One from ∷ ones_from test (from + 1) count else ones_from test (from + 1) count

-- within its bounds, a phrase names what the field has marked
abbrev pub IsExact : ℕ → ℕ → ℕ → Field → Phrase → Type 0
IsExact least greatest bit f phrase =
    (value : ℕ) → names least greatest phrase value ≡ (is_within least greatest value && is_named bit f value)

-- each value within the bounds is plain
abbrev pub HasAll : ℕ → ℕ → Field → Type 0
HasAll least greatest f = (value : ℕ) → is_within least greatest value ≡ true → is_plain f value ≡ true

-- the phrase names each value, whatever the bounds
abbrev pub NamesAll : Phrase → Type 0
NamesAll phrase = (least greatest value : ℕ) → is_in_some least greatest phrase.pieces.items value ≡ true

-- the phrase names no value, whatever the bounds
abbrev pub NamesNothing : Phrase → Type 0
NamesNothing phrase = (least greatest value : ℕ) → is_in_some least greatest phrase.pieces.items value ≡ false

-- ---- from one plain value to the next

-- steps from a first value reach none of the values from one on and below another
abbrev pub PassesOver : ℕ → ℕ → ℕ → ℕ → Type 0
PassesOver first step from end =
    (value : ℕ) → first ≤ value → from ≤ value → value < end → is_stepwise step (value - first) ≡ false

-- a piece names none of them
abbrev pub NamesNone : ℕ → ℕ → Piece → ℕ → ℕ → Type 0
NamesNone least greatest piece from end = (value : ℕ) → from ≤ value → value < end → is_in least greatest piece value ≡ false

-- no piece of a list does
abbrev pub NameNone : ℕ → ℕ → List Piece → ℕ → ℕ → Type 0
NameNone least greatest pieces from end = (value : ℕ) → from ≤ value → value < end → is_in_some least greatest pieces value ≡ false

-- the next plain value from one on, or the value above the greatest
pub record IsNextPlain (greatest : ℕ) (f : Field) (from next : ℕ) : Type 0 where
  pub above : from ≤ next
  pub within : next ≤ greatest + 1
  pub none : (value : ℕ) → from ≤ value → value < next → is_plain f value ≡ false
  pub plain : next ≤ greatest → is_plain f next ≡ true

-- pieces name no value from one on before the next, and name that, where it isn't above the greatest
pub record StepAgrees (least greatest : ℕ) (pieces : List Piece) (from next : ℕ) : Type 0 where
  pub none : NameNone least greatest pieces from next
  pub named : next ≤ greatest → is_in_some least greatest pieces next ≡ true
  pub once : next ≤ greatest → times_named least greatest pieces next ≤ 1

-- as far as a value, pieces name what is plain, within the bounds
abbrev pub AgreeWithin : ℕ → ℕ → List Piece → Field → ℕ → Type 0
AgreeWithin least greatest pieces f end =
    (value : ℕ) → least ≤ value → value < end → value ≤ greatest → is_in_some least greatest pieces value ≡ is_plain f value

-- and none of these is named twice
abbrev pub NameOnceWithin : ℕ → ℕ → List Piece → ℕ → Type 0
NameOnceWithin least greatest pieces end = (value : ℕ) → least ≤ value → value < end → value ≤ greatest → times_named least greatest pieces value ≤ 1
