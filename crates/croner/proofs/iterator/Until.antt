-- What an iterator on the clock of a table gave up to a second, call by call, and how its listing ended.
use Rattle.std.proofs.Common.{◌≡◌, ◌≤◌, ◌+◌, ◌∙◌, ℕ, ℤ, false, List, [], ◌∷◌, ◌++◌, Option, Some, None, length, refl, sym, subst, inr, arith}
use Rattle.std.proofs.lemmas.List.{map_push, length_push, length-map}
use Rattle.std.proofs.lemmas.List.Elements.{All-nil, All-push}
use Rattle.std.specs.List.{All}
use Rattle.croner_base.specs.declared.time.Direction.{Direction}
use Rattle.croner_base.specs.declared.time.table.TableTime.{TableTime}
use Rattle.croner_base.specs.TableZone.{table_moment}
use Rattle.croner_base.proofs.tables.TableCalm.{clock_calm}
use Rattle.croner.specs.iterator.Listing.{Standing, IsLeft, instants, Gave}
use Rattle.croner.specs.laws.Neighbours.{IsWholeIn}
use Rattle.croner.specs.laws.Until.{ComesBy, ListsUntil}
use Rattle.croner.specs.Private.Until.{TakesUntil}
use Rattle.croner.specs.search.Premises.{StartsCalm}
use Rattle.croner.specs.search.Runs.{Precedes}
use Rattle.croner.specs.declared.laws.listing.ListingEnd.{ListingEnd}
use Rattle.croner.specs.declared.laws.listing.ListingEnd.TheVariants as ends
use Rattle.croner.proofs.iterator.ItemsGiven.{Goes, goes_on, goes_to, gave, begins_rest, gave_all, is_over, without_fault}

-- a whole second on the clock of a table, which is calm
pub starts_calm : (t : TableTime) → StartsCalm (table_moment t)
starts_calm t = record { calm = clock_calm t.table.now.first_offset t.table.now.changes.items t.table.now.calm; whole = refl }

-- after so many calls, each with an item
pub record GivesUntil (old cur : Standing) (until : Option ℤ) (items : List TableTime) : Type 0 where
  pub goes : Goes old cur (instants table_moment items)
  pub by : All (ComesBy old.direction until) (instants table_moment items)
  pub wholes : All (λ t. IsWholeIn old.position.zone (table_moment t)) items

-- before the first call
pub gives_none : (old : Standing) (until : Option ℤ) → GivesUntil old old until []
gives_none old until = record {
  goes = record {
    direction = refl;
    zone = refl;
    splits = λ calm. record {
      ordered = λ k j d before within. absurd (omega (arith, within));
      counts = All-nil (IsLeft old);
      either = λ i left. inr left;
      later = λ i left. All-nil (λ x. Precedes old.direction x i);
      within = λ i left. left;
    };
    calm = λ calm. calm;
    searchable = λ held. held;
  };
  by = All-nil (ComesBy old.direction until);
  wholes = All-nil (λ t. IsWholeIn old.position.zone (table_moment t));
}

seconds_length : (items : List TableTime) → length (instants table_moment items) ≡ length items
seconds_length items = length-map items (λ (t : TableTime). (table_moment t).instant)

module _ (old cur new : Standing) (until : Option ℤ) (before after : List TableTime) (g : GivesUntil old cur until before) where
  -- one call more
  pub one_more : TakesUntil until cur new before after None → GivesUntil old new until after
  one_more (t, gives, by, e) =
      let P : List TableTime → Type 0 = λ ts. GivesUntil old new until ts in
      let pushed : instants table_moment (before ++ t ∷ []) ≡ instants table_moment before ++ t.second ∷ [] = map_push (λ (x : TableTime). (table_moment x).instant) before t in
      subst P (sym e) (record {
        goes = subst (λ (is : List ℤ). Goes old new is) (sym pushed) (goes_to old cur new (instants table_moment before) (table_moment t) g.goes gives);
        by = subst (λ (is : List ℤ). All (ComesBy old.direction until) is) (sym pushed)
            (All-push (ComesBy old.direction until) (instants table_moment before) t.second g.by (subst (λ (d : Direction). ComesBy d until t.second) g.goes.direction by));
        wholes = All-push (λ x. IsWholeIn old.position.zone (table_moment x)) before t g.wholes (record { zone = gives.found.zone ∙ g.goes.zone; whole = gives.found.whole });
      })

  pub one_longer : TakesUntil until cur new before after None → length after ≡ length before + 1
  one_longer (t, gives, by, e) = subst (λ (ts : List TableTime). length ts ≡ length before + 1) (sym e) (length_push before t)

  -- the call that ends the listing
  pub ends_listing : (limit : ℕ) (end : ListingEnd) → StartsCalm old.position → length before ≤ limit → TakesUntil until cur new before after (Some end)
      → ListsUntil old new until limit after end
  ends_listing limit ends.Full calm fits takes = absurd takes
  ends_listing limit (ends.Past i) calm fits (t, gives, at, past, e) =
      let goes = goes_to old cur new (instants table_moment before) (table_moment t) g.goes gives in
      let isnt : ComesBy old.direction until t.second → ⊥ = λ by. past (subst (λ (d : Direction). ComesBy d until t.second) (sym g.goes.direction) by) in
      subst (λ (ts : List TableTime). ListsUntil old new until limit ts (ends.Past i)) (sym e) (record {
        begins = begins_rest old cur (instants table_moment before) g.goes calm;
        rest = subst (λ (x : ℤ). Gave old new (instants table_moment before ++ x ∷ [])) at (gave old new (instants table_moment before ++ t.second ∷ []) goes calm);
        by = g.by;
        whole = g.wholes;
        most = fits;
        ended = subst (λ (x : ℤ). ComesBy old.direction until x → ⊥) at isnt;
      })
  ends_listing limit ends.Over calm fits (none, without, e) =
      let goes = goes_on false old cur new (instants table_moment before) g.goes none in
      subst (λ (ts : List TableTime). ListsUntil old new until limit ts ends.Over) (sym e) (record {
        begins = begins_rest old cur (instants table_moment before) g.goes calm;
        rest = gave old new (instants table_moment before) goes calm;
        by = g.by;
        whole = g.wholes;
        most = fits;
        ended = (gave_all old new (instants table_moment before) goes (is_over false old cur new (instants table_moment before) g.goes none without) calm, without);
      })
  ends_listing limit ends.Refused calm fits (none, with_fault, e) =
      let goes = goes_on false old cur new (instants table_moment before) g.goes none in
      subst (λ (ts : List TableTime). ListsUntil old new until limit ts ends.Refused) (sym e) (record {
        begins = begins_rest old cur (instants table_moment before) g.goes calm;
        rest = gave old new (instants table_moment before) goes calm;
        by = g.by;
        whole = g.wholes;
        most = fits;
        ended = (λ held. with_fault (without_fault false cur new none refl (g.goes.searchable held)), with_fault);
      })

-- a listing that ended with its last item
pub lists_full : (old cur : Standing) (until : Option ℤ) (limit : ℕ) (items : List TableTime) → StartsCalm old.position → GivesUntil old cur until items
    → length items ≡ limit → ListsUntil old cur until limit items ends.Full
lists_full old cur until limit items calm g each = record {
  begins = begins_rest old cur (instants table_moment items) g.goes calm;
  rest = gave old cur (instants table_moment items) g.goes calm;
  by = g.by;
  whole = g.wholes;
  most = omega (arith, each);
  ended = seconds_length items ∙ each;
}
