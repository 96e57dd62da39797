-- A call of an iterator in a listing up to a second. Private contracts alone cite these definitions.
use Rattle.std.specs.Prelude.{◌≡◌, false, ℕ, ℤ, ◌++◌, List, [], ◌∷◌, Option, Some, None}
use Rattle.std.specs.declared.alloc.Global.{Global}
use Rattle.std.specs.declared.vec.Vec.{Vec}
use Rattle.croner_base.specs.declared.time.table.TableTime.{TableTime}
use Rattle.croner_base.specs.TableZone.{table_moment}
use Rattle.croner.specs.crontable.TableListing.{TableStanding, GivesTableItem, GivesNoTableItem}
use Rattle.croner.specs.iterator.Listing.{Standing, GivesItem, GivesNone}
use Rattle.croner.specs.laws.Until.{ComesBy}
use Rattle.croner.specs.declared.laws.listing.ListingEnd.{ListingEnd}
use Rattle.croner.specs.declared.laws.listing.ListingEnd.TheVariants as ends

-- the call put its item after the others; or it ended the listing, which keeps its items
abbrev pub TakesUntil : Option ℤ → Standing → Standing → List TableTime → List TableTime → Option ListingEnd → Type 0
TakesUntil until old new before after None =
    (t : TableTime) × GivesItem old (table_moment t) new × ComesBy old.direction until t.second × (after ≡ before ++ t ∷ [])
TakesUntil until old new before after (Some ends.Full) = ⊥
TakesUntil until old new before after (Some (ends.Past i)) =
    (t : TableTime) × GivesItem old (table_moment t) new × (t.second ≡ i) × ¬ (ComesBy old.direction until t.second) × (after ≡ before)
TakesUntil until old new before after (Some ends.Over) = GivesNone false old new × (new.fault ≡ None) × (after ≡ before)
TakesUntil until old new before after (Some ends.Refused) = GivesNone false old new × ¬ (new.fault ≡ None) × (after ≡ before)

-- the same of a table's iterator
abbrev pub TakesTableUntil : Option ℤ → TableStanding → TableStanding → List (TableTime × Vec ℕ Global) → List (TableTime × Vec ℕ Global) → Option ListingEnd → Type 0
TakesTableUntil until old new before after None =
    (item : TableTime × Vec ℕ Global) × GivesTableItem old (table_moment item.0) item.1.items new × ComesBy old.direction until item.0.second
    × (after ≡ before ++ item ∷ [])
TakesTableUntil until old new before after (Some ends.Full) = ⊥
TakesTableUntil until old new before after (Some (ends.Past i)) =
    (t : TableTime) × (places : List ℕ) × GivesTableItem old (table_moment t) places new × (t.second ≡ i) × ¬ (ComesBy old.direction until t.second)
    × (after ≡ before)
TakesTableUntil until old new before after (Some ends.Over) = GivesNoTableItem old new × (new.fault ≡ None) × (after ≡ before)
TakesTableUntil until old new before after (Some ends.Refused) = GivesNoTableItem old new × ¬ (new.fault ≡ None) × (after ≡ before)
