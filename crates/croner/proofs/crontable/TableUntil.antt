-- What an iterator over a table of patterns gave up to a second, on the clock of a table of offsets, and how its listing ended.
use Rattle.std.proofs.Common.{◌≡◌, ◌≤◌, ◌+◌, ◌∙◌, ℕ, ℤ, List, [], ◌∷◌, ◌++◌, Option, Some, None, length, inl, inr, refl, sym, ap, subst, arith}
use Rattle.std.proofs.lemmas.List.{map_push, length_push, length-map}
use Rattle.std.proofs.lemmas.List.Elements.{All-nil, All-push}
use Rattle.std.specs.List.{All}
use Rattle.std.specs.declared.alloc.Global.{Global}
use Rattle.std.specs.declared.vec.Vec.{Vec}
use Rattle.croner_base.specs.declared.time.Direction.{Direction}
use Rattle.croner_base.specs.declared.time.table.TableTime.{TableTime}
use Rattle.croner_base.specs.TableZone.{table_moment}
use Rattle.croner.specs.crontable.TableItems.{item_instants, table_items, GaveTable}
use Rattle.croner.specs.crontable.Tables.{ArePlaces}
use Rattle.croner.specs.crontable.TableListing.{TableStanding, IsLeftAt, IsTableLeft}
use Rattle.croner.specs.laws.Until.{ComesBy, ListsTableUntil}
use Rattle.croner.specs.Private.Until.{TakesTableUntil}
use Rattle.croner.specs.search.Premises.{StartsCalm}
use Rattle.croner.specs.search.Runs.{Precedes}
use Rattle.croner.specs.declared.laws.listing.ListingEnd.{ListingEnd}
use Rattle.croner.specs.declared.laws.listing.ListingEnd.TheVariants as ends
use Rattle.croner.proofs.crontable.TableItems.{TableGoes, goes_on, goes_to, gave_table, begins_table_rest, gave_all_table, is_over, memory_alone}

-- a moment with its places
abbrev pub Item : Type 0
Item = TableTime × Vec ℕ Global

abbrev item_of : Item → ℤ × List ℕ
item_of item = ((table_moment item.0).instant, item.1.items)

-- after so many calls, each with an item
pub record GivesTableUntil (old cur : TableStanding) (until : Option ℤ) (items : List Item) : Type 0 where
  pub goes : TableGoes old cur (table_items table_moment items)
  pub by : All (ComesBy old.direction until) (item_instants (table_items table_moment items))

-- before the first call
pub gives_none : (old : TableStanding) (until : Option ℤ) → GivesTableUntil old old until []
gives_none old until = record {
  goes = record {
    direction = refl;
    zone = refl;
    calm = λ calm. calm;
    searchable = λ held. held;
    splits = λ calm. record {
      ordered = λ k j d before within. absurd (omega (arith, within));
      counts = All-nil (IsTableLeft old);
      either = λ i left. inr left;
      later = λ i left. All-nil (λ x. Precedes old.direction x i);
      within = λ i left. left;
    };
    within_at = λ calm k i at. at;
    back_at = λ calm k i left at. at;
    places = λ calm. All-nil (λ item. ArePlaces (λ k. IsLeftAt old k item.0) item.1);
  };
  by = All-nil (ComesBy old.direction until);
}

moments_length : (items : List Item) → length (table_items table_moment items) ≡ length items
moments_length items = length-map items item_of

module _ (old cur new : TableStanding) (until : Option ℤ) (before after : List Item) (g : GivesTableUntil old cur until before) where
  -- one call more
  pub one_more : TakesTableUntil until cur new before after None → GivesTableUntil old new until after
  one_more (item, gives, by, e) =
      let moments = table_items table_moment before in
      let pushed : table_items table_moment (before ++ item ∷ []) ≡ moments ++ item_of item ∷ [] = map_push item_of before item in
      let later : item_instants (moments ++ item_of item ∷ []) ≡ item_instants moments ++ item.0.second ∷ [] = map_push (λ (m : ℤ × List ℕ). m.0) moments (item_of item) in
      subst (λ (ts : List Item). GivesTableUntil old new until ts) (sym e) (record {
        goes = subst (λ (ms : List (ℤ × List ℕ)). TableGoes old new ms) (sym pushed) (goes_to old cur new moments (table_moment item.0) item.1.items g.goes gives);
        by = subst (λ (is : List ℤ). All (ComesBy old.direction until) is) (sym (ap (λ (ms : List (ℤ × List ℕ)). item_instants ms) pushed ∙ later))
            (All-push (ComesBy old.direction until) (item_instants moments) item.0.second g.by (subst (λ (d : Direction). ComesBy d until item.0.second) g.goes.direction by));
      })

  pub one_longer : TakesTableUntil until cur new before after None → length after ≡ length before + 1
  one_longer (item, gives, by, e) = subst (λ (ts : List Item). length ts ≡ length before + 1) (sym e) (length_push before item)

  -- the call that ends the listing
  pub ends_listing : (limit : ℕ) (end : ListingEnd) → StartsCalm old.position → length before ≤ limit → TakesTableUntil until cur new before after (Some end)
      → ListsTableUntil old new until limit after end
  ends_listing limit ends.Full calm fits takes = absurd takes
  ends_listing limit (ends.Past i) calm fits (t, places, gives, at, past, e) =
      let moments = table_items table_moment before in
      let goes = goes_to old cur new moments (table_moment t) places g.goes gives in
      let isnt : ComesBy old.direction until t.second → ⊥ = λ by. past (subst (λ (d : Direction). ComesBy d until t.second) (sym g.goes.direction) by) in
      subst (λ (ts : List Item). ListsTableUntil old new until limit ts (ends.Past i)) (sym e) (record {
        begins = begins_table_rest old cur moments g.goes calm;
        rest = (places, subst (λ (x : ℤ). GaveTable old new (moments ++ (x, places) ∷ [])) at (gave_table old new (moments ++ (t.second, places) ∷ []) goes calm));
        by = g.by;
        most = fits;
        ended = subst (λ (x : ℤ). ComesBy old.direction until x → ⊥) at isnt;
      })
  ends_listing limit ends.Over calm fits (none, without, e) =
      let moments = table_items table_moment before in
      let goes = goes_on old cur new moments g.goes none in
      subst (λ (ts : List Item). ListsTableUntil old new until limit ts ends.Over) (sym e) (record {
        begins = begins_table_rest old cur moments g.goes calm;
        rest = ([], gave_table old new moments goes calm);
        by = g.by;
        most = fits;
        ended = (gave_all_table old new moments goes (is_over old cur new moments g.goes none without) calm, without);
      })
  ends_listing limit ends.Refused calm fits (none, with_fault, e) =
      let moments = table_items table_moment before in
      let goes = goes_on old cur new moments g.goes none in
      subst (λ (ts : List Item). ListsTableUntil old new until limit ts ends.Refused) (sym e) (record {
        begins = begins_table_rest old cur moments g.goes calm;
        rest = ([], gave_table old new moments goes calm);
        by = g.by;
        most = fits;
        ended = (
          λ held. elim (memory_alone cur new none (g.goes.searchable held)) [ inl without ↦ absurd (with_fault without) | inr (wanting, can) ↦ wanting ],
          with_fault,
        );
      })

-- a listing that ended with its last item
pub lists_full : (old cur : TableStanding) (until : Option ℤ) (limit : ℕ) (items : List Item) → StartsCalm old.position → GivesTableUntil old cur until items
    → length items ≡ limit → ListsTableUntil old cur until limit items ends.Full
lists_full old cur until limit items calm g each = record {
  begins = begins_table_rest old cur (table_items table_moment items) g.goes calm;
  rest = ([], gave_table old cur (table_items table_moment items) g.goes calm);
  by = g.by;
  most = omega (arith, each);
  ended = moments_length items ∙ each;
}
