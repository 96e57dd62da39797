-- Listings up to a second, on the clock of a table: the items, and how such a listing ends.
use Rattle.std.specs.Prelude.{◌≡◌, ◌≤◌, ⊤, ℕ, ℤ, ◌++◌, List, [], ◌∷◌, length, Option, Some, None}
use Rattle.std.specs.List.{All}
use Rattle.std.specs.declared.alloc.Global.{Global}
use Rattle.std.specs.declared.vec.Vec.{Vec}
use Rattle.croner_base.specs.declared.errors.CronError.TheVariants.{OutOfMemory}
use Rattle.croner_base.specs.declared.time.Direction.{Direction}
use Rattle.croner_base.specs.declared.time.table.TableTime.{TableTime}
use Rattle.croner_base.specs.TableZone.{table_moment}
use Rattle.croner.specs.crontable.TableItems.{BeginsTableRest, GaveTable, GaveAllTable, item_instants, table_items}
use Rattle.croner.specs.crontable.TableListing.{TableStanding}
use Rattle.croner.specs.iterator.Listing.{Standing, BeginsRest, Gave, GaveAll, instants}
use Rattle.croner.specs.laws.Neighbours.{IsWholeIn}
use Rattle.croner.specs.search.Premises.{IsSearchable}
use Rattle.croner.specs.search.Runs.{Reaches}
use Rattle.croner.specs.declared.laws.listing.ListingEnd.{ListingEnd}
use Rattle.croner.specs.declared.laws.listing.ListingEnd.TheVariants as ends

-- an instant comes no later in the direction than a second, where there is one
abbrev pub ComesBy : Direction → Option ℤ → ℤ → Type 0
ComesBy direction None i = ⊤
ComesBy direction (Some until) i = Reaches direction i until

-- ---- of one pattern

-- all that the iterator gave: the items, and after them the run past the second, where that one ended the listing
abbrev pub pulled : List ℤ → ListingEnd → List ℤ
pulled items ends.Full = items
pulled items (ends.Past i) = items ++ i ∷ []
pulled items ends.Over = items
pulled items ends.Refused = items

-- how a listing ended: with as many items as were asked for at most; at a run past the second; with all that was left in the span; or by a
-- refusal, which no search meets that is promised
abbrev pub Ends : Standing → Standing → Option ℤ → ℕ → List ℤ → ListingEnd → Type 0
Ends old new until limit items ends.Full = length items ≡ limit
Ends old new until limit items (ends.Past i) = ¬ (ComesBy old.direction until i)
Ends old new until limit items ends.Over = GaveAll old items × (new.fault ≡ None)
Ends old new until limit items ends.Refused = ¬ (IsSearchable old.position) × ¬ (new.fault ≡ None)

-- the items up to a second, so many at most, and how their listing ended
pub record ListsUntil (old new : Standing) (until : Option ℤ) (limit : ℕ) (items : List TableTime) (end : ListingEnd) : Type 0 where
  pub begins : BeginsRest old (instants table_moment items)
  pub rest : Gave old new (pulled (instants table_moment items) end)
  pub by : All (ComesBy old.direction until) (instants table_moment items)
  pub whole : All (λ t. IsWholeIn old.position.zone (table_moment t)) items
  pub most : length items ≤ limit
  pub ended : Ends old new until limit (instants table_moment items) end

-- ---- of a table of patterns

-- all that the iterator gave, where the run past the second has these places
abbrev pub pulled_places : List (ℤ × List ℕ) → List ℕ → ListingEnd → List (ℤ × List ℕ)
pulled_places items places ends.Full = items
pulled_places items places (ends.Past i) = items ++ (i, places) ∷ []
pulled_places items places ends.Over = items
pulled_places items places ends.Refused = items

-- how a listing ended, as that of one pattern; but the places of an item can lack memory
abbrev pub TableEnds : TableStanding → TableStanding → Option ℤ → ℕ → List (ℤ × List ℕ) → ListingEnd → Type 0
TableEnds old new until limit items ends.Full = length items ≡ limit
TableEnds old new until limit items (ends.Past i) = ¬ (ComesBy old.direction until i)
TableEnds old new until limit items ends.Over = GaveAllTable old items × (new.fault ≡ None)
TableEnds old new until limit items ends.Refused = (IsSearchable old.position → new.fault ≡ Some OutOfMemory) × ¬ (new.fault ≡ None)

-- the items up to a second, so many at most, and how their listing ended
pub record ListsTableUntil (old new : TableStanding) (until : Option ℤ) (limit : ℕ) (items : List (TableTime × Vec ℕ Global)) (end : ListingEnd) : Type 0 where
  pub begins : BeginsTableRest old (table_items table_moment items)
  pub rest : (places : List ℕ) × GaveTable old new (pulled_places (table_items table_moment items) places end)
  pub by : All (ComesBy old.direction until) (item_instants (table_items table_moment items))
  pub most : length items ≤ limit
  pub ended : TableEnds old new until limit (table_items table_moment items) end
