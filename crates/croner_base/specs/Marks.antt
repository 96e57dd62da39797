-- The marks of a field as sets of values, one for each modifier, and what reading a text adds to them.
use Rattle.std.specs.Prelude.{◌≡◌, ℕ, ◌+◌, ◌*◌, ◌^◌, ◌<◌, ◌≤◌, ◌↔◌, Bool, true, false, not, ◌||◌, ◌&&◌, ◌==◌, nat_le, List, length}
use Rattle.std.specs.List.{list_any}
use Rattle.std.specs.List.Sorted.{IsStrictlyIncreasing}
use Rattle.std.specs.Str.{trim}
use Rattle.croner_base.specs.Field.{plain_bit, Shape, Field, has_any, has_all, is_in_bounds, can_ask, is_marked, with_mark, without_mark, marked_values, room, values_between}
use Rattle.croner_base.specs.Part.{all_marked, stepped_marks, part_of, parts_of}
use Rattle.croner_base.specs.Reading.{Effect, marks, Reading, applied}

-- what holds of every component
pub record IsWellFormed (f : Field) : Type 0 where
  pub room : length f.marks ≡ room f.shape.max
  pub ordered : f.shape.min ≤ f.shape.max
  pub fits : f.shape.max + f.shape.offset < 65536

-- the value is in the set of a modifier: 0 plain, 1 to 5 nth, 6 last, 7 nearest weekday
abbrev pub is_in : ℕ → Field → ℕ → Bool
is_in k f value = is_marked (2 ^ k) f value

-- the bits have that modifier among them
abbrev pub has_modifier : ℕ → ℕ → Bool
has_modifier k bits = has_any bits (2 ^ k)

abbrev pub is_among : ℕ → List ℕ → Bool
is_among value values = list_any (λ x. x == value) values

-- one thing that reading does marks the value with the modifier
abbrev pub names_here : ℕ → ℕ → Effect → Bool
names_here k value (marks v bits) = v == value && has_modifier k bits
names_here k value other = false

-- reading marks the value with the modifier
abbrev pub names : ℕ → Reading → ℕ → Bool
names k reading value = list_any (names_here k value) reading.done

-- nothing but marks differs, and none is lost or added at the end
pub record OnlyMarksDiffer (old new : Field) : Type 0 where
  pub shape : new.shape ≡ old.shape
  pub length : length new.marks ≡ length old.marks
  pub enabled : new.enabled ≡ old.enabled
  pub step : new.step ≡ old.step
  pub wildcard : new.wildcard ≡ old.wildcard

-- the sets after a mark have the one value more, in the sets of its modifiers
abbrev pub AddsOne : Field → ℕ → ℕ → Type 0
AddsOne f value bits =
    OnlyMarksDiffer f (with_mark f value bits)
    × ((k w : ℕ) → is_in k (with_mark f value bits) w ≡ (is_in k f w || (value == w && has_modifier k bits)))

-- the sets after an unset have the one value less, in the sets of its modifiers
abbrev pub TakesOne : Field → ℕ → ℕ → Type 0
TakesOne f value bits =
    OnlyMarksDiffer f (without_mark f value bits)
    × ((k w : ℕ) → k < 8 → is_in k (without_mark f value bits) w ≡ (is_in k f w && not (value == w && has_modifier k bits)))

-- the sets after reading are the old ones and what the reading names
abbrev pub AddsNamed : Field → Reading → Type 0
AddsNamed f reading = (k w : ℕ) → w < length f.marks → is_in k (applied reading.done f) w ≡ (is_in k f w || names k reading w)

-- an accepted range names the values that are from a to b before the offset is taken off
abbrev pub NamesRange : Shape → ℕ → ℕ → ℕ → Type 0
NamesRange shape bits a b =
    (k w : ℕ) → (all_marked shape bits (values_between a b)).accepted ≡ true
    → names k (all_marked shape bits (values_between a b)) w ≡ ((nat_le a (w + shape.offset) && nat_le (w + shape.offset) b) && has_modifier k bits)

-- a value is one of s, s + step, s + 2 * step, .. up to e before the offset is taken off
pub record IsStep (shape : Shape) (s e step w : ℕ) : Type 0 where
  pub count : ℕ
  pub is : w + shape.offset ≡ s + count * step
  pub within : w + shape.offset ≤ e

-- an accepted step names just these
abbrev pub NamesSteps : Shape → ℕ → ℕ → ℕ → ℕ → Type 0
NamesSteps shape bits s e step =
    (k w : ℕ) → (stepped_marks shape bits s e step).accepted ≡ true
    → (names k (stepped_marks shape bits s e step) w ≡ true) ↔ (IsStep shape s e step w × (has_modifier k bits ≡ true))

-- an accepted list names what its parts name
abbrev pub NamesUnion : Shape → List (List ℕ) → Type 0
NamesUnion shape parts =
    (k w : ℕ) → (parts_of shape parts).accepted ≡ true
    → names k (parts_of shape parts) w ≡ list_any (λ part. names k (part_of shape (trim part)) w) parts

-- the listed values are those within the bounds that are in one of the asked sets, in ascending order
pub record ListsSet (bits : ℕ) (f : Field) : Type 0 where
  pub ascending : IsStrictlyIncreasing (marked_values bits f)
  pub members : (w : ℕ) → is_among w (marked_values bits f) ≡ (has_all f.shape.supported bits && (is_in_bounds f.shape w && is_marked bits f w))

-- the field holds the value, supports plain values, and the value is marked plain
abbrev pub is_plain_value : Field → ℕ → Bool
is_plain_value f value = can_ask f.shape value plain_bit && is_marked plain_bit f value

-- from the value on there is no plain one
abbrev pub HasNoPlainFrom : Field → ℕ → Type 0
HasNoPlainFrom f from = (value : ℕ) → from ≤ value → is_plain_value f value ≡ false

-- the least plain value from the given one on
pub record IsLeastPlainValue (f : Field) (from least : ℕ) : Type 0 where
  pub above : from ≤ least
  pub plain : is_plain_value f least ≡ true
  pub first : (value : ℕ) → from ≤ value → is_plain_value f value ≡ true → least ≤ value

-- up to the value there is no plain one
abbrev pub HasNoPlainTo : Field → ℕ → Type 0
HasNoPlainTo f to = (value : ℕ) → value ≤ to → is_plain_value f value ≡ false

-- the greatest plain value up to the given one
pub record IsGreatestPlainValue (f : Field) (to greatest : ℕ) : Type 0 where
  pub below : greatest ≤ to
  pub plain : is_plain_value f greatest ≡ true
  pub last : (value : ℕ) → value ≤ to → is_plain_value f value ≡ true → value ≤ greatest
