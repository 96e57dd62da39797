-- Lists of items of an iterator over a table, each an instant with places: what begins its listing, and what so many calls
-- gave.
use Rattle.std.specs.Prelude.{◌≡◌, ℕ, zero, suc, ℤ, ◌⊎◌, ◌++◌, Bool, true, false, List, [], ◌∷◌, None, map}
use Rattle.std.specs.List.{All, AllPairs, Contains}
use Rattle.std.specs.declared.alloc.Global.{Global}
use Rattle.std.specs.declared.vec.Vec.{Vec}
use Rattle.croner_base.specs.Zone.{Moment}
use Rattle.croner.specs.search.Limit.{InSpan}
use Rattle.croner.specs.iterator.Listing.{BeginsWhere}
use Rattle.croner.specs.search.Runs.{Precedes}
use Rattle.croner.specs.crontable.Tables.{ArePlaces}
use Rattle.croner.specs.crontable.TableListing.{TableStanding, table_standing_of, IsLeftAt, IsTableLeft, GivesTableItem, GivesNoTableItem}
use Rattle.croner.specs.declared.crontable.iterator.CronTableIterator.{CronTableIterator}

-- the instants of items
abbrev pub item_instants : List (ℤ × List ℕ) → List ℤ
item_instants items = map (λ item. item.0) items

-- each item has exactly the places that an iterator standing there had yet to give at its instant
abbrev pub HavePlaces : TableStanding → List (ℤ × List ℕ) → Type 0
HavePlaces s items = All (λ item. ArePlaces (λ k. IsLeftAt s k item.0) item.1) items

-- the items begin what it has yet to give: their instants begin the listing of the table runs that count, each with exactly
-- the places that count there
pub record BeginsTableRest (s : TableStanding) (items : List (ℤ × List ℕ)) : Type 0 where
  pub runs : BeginsWhere s.direction (IsTableLeft s) (item_instants items)
  pub places : HavePlaces s items

-- between two standings of an iterator it gave the items: they go strictly in its direction, each was left before with just
-- its places, and what was left is among them or is left still, after all of them
pub record GaveTable (old new : TableStanding) (items : List (ℤ × List ℕ)) : Type 0 where
  pub ordered : AllPairs (Precedes old.direction) (item_instants items)
  pub counts : All (IsTableLeft old) (item_instants items)
  pub either : (i : ℤ) → IsTableLeft old i → Contains (item_instants items) i ⊎ IsTableLeft new i
  pub later : (i : ℤ) → IsTableLeft new i → All (λ x. Precedes old.direction x i) (item_instants items)
  pub within : (i : ℤ) → IsTableLeft new i → IsTableLeft old i
  pub places : HavePlaces old items

-- the items are all that was left in the span
abbrev pub GaveAllTable : TableStanding → List (ℤ × List ℕ) → Type 0
GaveAllTable old items =
    (i : ℤ) → IsTableLeft old i → InSpan old.direction old.position.zone.reads i → Contains (item_instants items) i

-- the instants and places of values
abbrev pub table_items : {T : Type 0} → (T → Moment) → List (T × Vec ℕ Global) → List (ℤ × List ℕ)
table_items moment items = map (λ item. ((moment item.0).instant, item.1.items)) items

-- a call put its item after the others; or it gave none, and the mark says whether it kept no fault, so that nothing is left
abbrev pub TakesTable : {T : Type 0} {d : _} {c : _} → (T → Moment) → CronTableIterator T d c → CronTableIterator T d c → List (T × Vec ℕ Global) → List (T × Vec ℕ Global) → Bool → Type 0
TakesTable moment old new before after true =
    GivesNoTableItem (table_standing_of moment old) (table_standing_of moment new) × ((table_standing_of moment new).fault ≡ None) × (after ≡ before)
TakesTable {T} moment old new before after false =
    (GivesNoTableItem (table_standing_of moment old) (table_standing_of moment new) × ¬ ((table_standing_of moment new).fault ≡ None) × (after ≡ before))
    ⊎ ((item : T × Vec ℕ Global) × GivesTableItem (table_standing_of moment old) (moment item.0) item.1.items (table_standing_of moment new) × (after ≡ before ++ item ∷ []))

-- so many calls one after the other: where the iterator then stands, the items, and the mark of the last call
abbrev pub TakesTableInTurn : {T : Type 0} {d : _} {c : _} → (T → Moment) → ℕ → CronTableIterator T d c → CronTableIterator T d c → List (T × Vec ℕ Global) → Bool → Type 0
TakesTableInTurn moment zero old new items mark = (new ≡ old) × (items ≡ []) × (mark ≡ false)
TakesTableInTurn {T} {d} {c} moment (suc calls) old new items mark =
    (between : CronTableIterator T d c) × (before : List (T × Vec ℕ Global)) × (b : Bool)
    × TakesTableInTurn moment calls old between before b × TakesTable moment between new before items mark
