-- What an iterator over a table gave between two standings, call by call.
use Rattle.std.proofs.Common.{◌≡◌, ◌↔◌, ℕ, suc, ◌+◌, ℤ, inl, inr, sym, subst, arith, Bool, true, false, IsTrue, List, [], ◌∷◌, ◌++◌, Option, None, ap, ◌∙◌, get_or}
use Rattle.std.proofs.lemmas.Bool.{false≢true}
use Rattle.std.proofs.lemmas.List.{map_push}
use Rattle.std.proofs.lemmas.List.Elements.{All-push}
use Rattle.std.specs.declared.alloc.Global.{Global}
use Rattle.std.specs.declared.vec.Vec.{Vec}
use Rattle.croner_base.specs.Calm.{IsCalm}
use Rattle.croner_base.specs.Zone.{Zone, Moment}
use Rattle.croner_base.specs.declared.errors.CronError.{CronError}
use Rattle.croner_base.specs.declared.errors.CronError.TheVariants.{TimeSearchLimitExceeded}
use Rattle.croner_base.specs.declared.time.Direction.{Direction}
use Rattle.croner_pattern.specs.Meaning.{Meaning}
use Rattle.croner.specs.iterator.Faults.{fault_of, IsMemoryAlone}
use Rattle.croner.specs.search.Runs.{Precedes, Reaches}
use Rattle.croner.specs.search.Premises.{StartsCalm, IsSearchable}
use Rattle.croner.specs.search.PatternJob.{pattern_job}
use Rattle.croner.specs.search.Limit.{InSpan}
use Rattle.croner.specs.crontable.Tables.{CountsAt, ArePlaces}
use Rattle.croner.specs.crontable.TableListing.{TableStanding, table_standing_of, new_table_standing, counts_table_position, table_moved, IsLeftAt, IsTableLeft, GivesTableItem, GivesNoTableItem}
use Rattle.croner.specs.crontable.TableItems.{item_instants, HavePlaces, BeginsTableRest, GaveTable, GaveAllTable, table_items, TakesTable, TakesTableInTurn}
use Rattle.croner.specs.declared.crontable.iterator.CronTableIterator.{CronTableIterator}
use Rattle.croner.proofs.zone.Ahead.{same_or_ahead, reaches-precedes}
use Rattle.croner.proofs.zone.Walks.{counts_reaches}
use Rattle.croner.proofs.iterator.Faults.{no_fault_is_limit}
use Rattle.croner.proofs.iterator.Listings.{all_given, same_span, Splits, splits_next, IsNext, is_run, begins_where, past_start}
use Rattle.croner.proofs.iterator.ThereAndBack.{searchable_run}

-- ---- one place

-- what counts from the start, of a position that lies no earlier: ahead of the position it counts from there too
module _ (direction : Direction) (inclusive : Bool) (patterns : List Meaning) (z : Zone) (s t : ℤ) (on : Reaches direction s t) where
  -- what is left after an item
  at_within : (k : ℕ) (i : ℤ) → CountsAt direction false patterns z t k i → CountsAt direction inclusive patterns z s k i
  at_within k i at = record {
    pattern = at.pattern;
    stands = at.stands;
    counts = inl (
      reaches-precedes direction s t i on (past_start direction (pattern_job at.pattern z) t i at.counts),
      is_run direction false (pattern_job at.pattern z) t i at.counts,
    );
  }

  at_back : (k : ℕ) (i : ℤ) → Precedes direction t i → CountsAt direction inclusive patterns z s k i → CountsAt direction false patterns z t k i
  at_back k i ahead at = record {
    pattern = at.pattern;
    stands = at.stands;
    counts = inl (ahead, is_run direction inclusive (pattern_job at.pattern z) s i at.counts);
  }

-- ---- a call

-- the invariant of repeated calls
pub record TableGoes (old cur : TableStanding) (items : List (ℤ × List ℕ)) : Type 0 where
  pub direction : cur.direction ≡ old.direction
  pub zone : cur.position.zone ≡ old.position.zone
  pub calm : StartsCalm old.position → StartsCalm cur.position
  pub searchable : IsSearchable old.position → IsSearchable cur.position
  pub splits : StartsCalm old.position → Splits old.direction (IsTableLeft old) (IsTableLeft cur) (item_instants items)
  pub within_at : StartsCalm old.position → (k : ℕ) (i : ℤ) → IsLeftAt cur k i → IsLeftAt old k i
  pub back_at : StartsCalm old.position → (k : ℕ) (i : ℤ) → IsTableLeft cur i → IsLeftAt old k i → IsLeftAt cur k i
  pub places : StartsCalm old.position → HavePlaces old items

-- a call without an item
pub goes_on : (old cur new : TableStanding) (items : List (ℤ × List ℕ)) → TableGoes old cur items → GivesNoTableItem cur new → TableGoes old new items
goes_on old cur new items g n =
    let P : TableStanding → Type 0 = λ s. TableGoes old s items in
    subst P (sym n.stands) (record {
      direction = g.direction;
      zone = g.zone;
      calm = g.calm;
      searchable = g.searchable;
      splits = g.splits;
      within_at = g.within_at;
      back_at = g.back_at;
      places = g.places;
    })

module _ (cur : TableStanding) (item : Moment) (places : List ℕ) (new : TableStanding) (g : GivesTableItem cur item places new) (p : StartsCalm cur.position) where
  first_at : IsTableLeft cur item.instant
  first_at = (g.found.nearest p).counts

  -- around it the backend holds what a search needs, where it does around the position
  searchable_there : IsSearchable cur.position → IsSearchable item
  searchable_there held =
      let at = first_at.1 in
      searchable_run at.pattern cur.position item held g.found.zone g.found.whole
      (is_run cur.direction (counts_table_position cur) (pattern_job at.pattern cur.position.zone) cur.position.instant item.instant at.counts)

  on_item : Reaches cur.direction cur.position.instant item.instant
  on_item =
      let at = first_at.1 in
      counts_reaches cur.direction (counts_table_position cur) (pattern_job at.pattern cur.position.zone) cur.position.instant item.instant at.counts

  -- in the item's zone, which is that of the position
  moved_at : (k : ℕ) (i : ℤ) → IsLeftAt (table_moved cur item) k i ↔ CountsAt cur.direction false cur.patterns cur.position.zone item.instant k i
  moved_at k i =
      let P : Zone → Type 0 = λ z. CountsAt cur.direction false cur.patterns z item.instant k i in (
        λ h. subst P g.found.zone h,
        λ h. subst P (sym g.found.zone) h,
      )

  moved_within : (k : ℕ) (i : ℤ) → IsLeftAt (table_moved cur item) k i → IsLeftAt cur k i
  moved_within k i at = at_within cur.direction (counts_table_position cur) cur.patterns cur.position.zone cur.position.instant item.instant on_item k i ((moved_at k i).0 at)

  moved_ahead : (i : ℤ) → IsTableLeft (table_moved cur item) i → Precedes cur.direction item.instant i
  moved_ahead i (k, at) = past_start cur.direction (pattern_job at.pattern item.zone) item.instant i at.counts

  moved_back : (k : ℕ) (i : ℤ) → Precedes cur.direction item.instant i → IsLeftAt cur k i → IsLeftAt (table_moved cur item) k i
  moved_back k i ahead at =
      (moved_at k i).1 (at_back cur.direction (counts_table_position cur) cur.patterns cur.position.zone cur.position.instant item.instant on_item k i ahead at)

  next_item : IsNext cur.direction (IsTableLeft cur) (IsTableLeft (table_moved cur item)) item.instant
  next_item = record {
    is = first_at;
    or_after = λ i (k, at).
        elim (same_or_ahead cur.direction item.instant i ((g.found.nearest p).nearest i (k, at))) [
          | inl e ↦ inl (sym e)
          | inr ahead ↦ inr (k, moved_back k i ahead at)
        ];
    within = λ i (k, at). (k, moved_within k i at);
    later = moved_ahead;
  }

searchable_at : (cur : TableStanding) (item : Moment) (places : List ℕ) (new : TableStanding) → GivesTableItem cur item places new → IsSearchable cur.position → IsSearchable item
searchable_at cur item places new g held = searchable_there cur item places new g held.starts held

-- a call with an item
pub goes_to : (old cur new : TableStanding) (items : List (ℤ × List ℕ)) (item : Moment) (places : List ℕ) → TableGoes old cur items → GivesTableItem cur item places new
    → TableGoes old new (items ++ (item.instant, places) ∷ [])
goes_to old cur new items item places g n =
    let P : TableStanding → Type 0 = λ s. TableGoes old s (items ++ (item.instant, places) ∷ []) in
    let pushed : item_instants (items ++ (item.instant, places) ∷ []) ≡ item_instants items ++ item.instant ∷ [] = map_push (λ (x : ℤ × List ℕ). x.0) items (item.instant, places) in
    subst P (sym n.stands) (record {
      direction = g.direction;
      zone = n.found.zone ∙ g.zone;
      calm = λ p. record { calm = subst IsCalm (sym n.found.zone) (g.calm p).calm; whole = n.found.whole };
      searchable = λ p. searchable_at cur item places new n (g.searchable p);
      splits = λ p.
          let Q : Direction → Type 0 = λ d. IsNext d (IsTableLeft cur) (IsTableLeft (table_moved cur item)) item.instant in
          let R : List ℤ → Type 0 = Splits old.direction (IsTableLeft old) (IsTableLeft (table_moved cur item)) in
          subst R (sym pushed)
          (splits_next old.direction (IsTableLeft old) (IsTableLeft cur) (IsTableLeft (table_moved cur item)) (item_instants items) item.instant (g.splits p)
          (subst Q g.direction (next_item cur item places new n (g.calm p))));
      within_at = λ p k i at. g.within_at p k i (moved_within cur item places new n (g.calm p) k i at);
      back_at = λ p k i (j, left) at.
          moved_back cur item places new n (g.calm p) k i (moved_ahead cur item places new n (g.calm p) i (j, left))
          (g.back_at p k i (j, moved_within cur item places new n (g.calm p) j i left) at);
      places = λ p.
          let found = n.found.places (g.calm p) in
          All-push (λ x. ArePlaces (λ k. IsLeftAt old k x.0) x.1) items (item.instant, places) (g.places p) (record {
            ordered = found.ordered;
            count = λ k d within. g.within_at p (get_or places k d) item.instant (found.count k d within);
            complete = λ k at. found.complete k (g.back_at p k item.instant (first_at cur item places new n (g.calm p)) at);
          });
    })

-- ---- what the calls show

pub gave_table : (old cur : TableStanding) (items : List (ℤ × List ℕ)) → TableGoes old cur items → StartsCalm old.position → GaveTable old cur items
gave_table old cur items g p =
    let s = g.splits p in
    record { ordered = s.ordered; counts = s.counts; either = s.either; later = s.later; within = s.within; places = g.places p }

pub begins_table_rest : (old cur : TableStanding) (items : List (ℤ × List ℕ)) → TableGoes old cur items → StartsCalm old.position → BeginsTableRest old items
begins_table_rest old cur items g p = record {
  runs = begins_where old.direction (IsTableLeft old) (IsTableLeft cur) (item_instants items) (g.splits p);
  places = g.places p;
}

-- nothing that is left lies in the span
abbrev pub IsTableOver : TableStanding → TableStanding → Type 0
IsTableOver old cur = StartsCalm old.position → (i : ℤ) → IsTableLeft cur i → InSpan old.direction old.position.zone.reads i → ⊥

limit_without : (cur new : TableStanding) (n : GivesNoTableItem cur new) → new.fault ≡ None → n.refusal ≡ TimeSearchLimitExceeded
limit_without cur new n without =
    let fault : TableStanding → Option CronError = λ s. s.fault in
    no_fault_is_limit n.refusal (sym (ap fault n.stands) ∙ without)

-- a call without an item and without a fault says so
pub is_over : (old cur new : TableStanding) (items : List (ℤ × List ℕ)) → TableGoes old cur items → GivesNoTableItem cur new → new.fault ≡ None → IsTableOver old new
is_over old cur new items g n without =
    let P : TableStanding → Type 0 = λ s. IsTableOver old s in
    subst P (sym n.stands) (λ p i left span.
    let here = same_span cur.direction old.direction cur.position.zone old.position.zone i g.direction g.zone span in
    n.refused.limit (g.calm p) (limit_without cur new n without) i here left)

pub gave_all_table : (old cur : TableStanding) (items : List (ℤ × List ℕ)) → TableGoes old cur items → IsTableOver old cur → StartsCalm old.position → GaveAllTable old items
gave_all_table old cur items g over p = all_given old.direction (IsTableLeft old) (IsTableLeft cur) (InSpan old.direction old.position.zone.reads) (item_instants items) (g.splits p) (over p)

-- where what a search needs is held, a call without an item keeps nothing but lack of memory
pub memory_alone : (cur new : TableStanding) → GivesNoTableItem cur new → IsSearchable cur.position → IsMemoryAlone true new.fault
memory_alone cur new n p =
    let fault : TableStanding → Option CronError = λ s. s.fault in
    elim (n.refused.promised p) [
      | inl limit ↦ inl (ap fault n.stands ∙ ap fault_of limit)
      | inr (wanting, can) ↦ inr (ap fault n.stands ∙ ap fault_of wanting, can)
    ]

-- one call more
module _ {T : Type 0} {d : _} {c : _} (moment : T → Moment) (old : TableStanding) (cur new : CronTableIterator T d c) (before after : List (T × Vec ℕ Global)) where
  pub goes_by_call : (b : Bool) → TableGoes old (table_standing_of moment cur) (table_items moment before) → TakesTable moment cur new before after b → TableGoes old (table_standing_of moment new) (table_items moment after)
  goes_by_call true g (none, without, e) =
      let P : List (T × Vec ℕ Global) → Type 0 = λ ts. TableGoes old (table_standing_of moment new) (table_items moment ts) in
      subst P (sym e) (goes_on old (table_standing_of moment cur) (table_standing_of moment new) (table_items moment before) g none)
  goes_by_call false g takes =
      let P : List (T × Vec ℕ Global) → Type 0 = λ ts. TableGoes old (table_standing_of moment new) (table_items moment ts) in
      let Q : List (ℤ × List ℕ) → Type 0 = λ is. TableGoes old (table_standing_of moment new) is in
      let F : T × Vec ℕ Global → ℤ × List ℕ = λ x. ((moment x.0).instant, x.1.items) in
      elim takes [
        | inl (none, with_fault, e) ↦ subst P (sym e) (goes_on old (table_standing_of moment cur) (table_standing_of moment new) (table_items moment before) g none)
        | inr (t, item, e) ↦
            subst P (sym e) (subst Q (sym (map_push F before t))
            (goes_to old (table_standing_of moment cur) (table_standing_of moment new) (table_items moment before) (moment t.0) t.1.items g item))
      ]

  pub over_by_call : (b : Bool) → TableGoes old (table_standing_of moment cur) (table_items moment before) → TakesTable moment cur new before after b → IsTrue b → IsTableOver old (table_standing_of moment new)
  over_by_call true g (none, without, e) h = is_over old (table_standing_of moment cur) (table_standing_of moment new) (table_items moment before) g none without
  over_by_call false g takes h = absurd (false≢true h)

  -- where what searches need is held, the call keeps nothing but lack of memory
  pub fault_by_call : (b : Bool) → TableGoes old (table_standing_of moment cur) (table_items moment before) → TakesTable moment cur new before after b
      → IsSearchable old.position → IsMemoryAlone true (table_standing_of moment new).fault
  fault_by_call true g (none, without, e) p = inl without
  fault_by_call false g takes p =
      let fault : TableStanding → Option CronError = λ s. s.fault in
      elim takes [
        | inl (none, with_fault, e) ↦ memory_alone (table_standing_of moment cur) (table_standing_of moment new) none (g.searchable p)
        | inr (t, item, e) ↦ inl (ap fault item.stands)
      ]

  -- and one more of the calls in turn
  pub called_again : (start : CronTableIterator T d c) (calls : ℕ) (b mark : Bool) → TakesTableInTurn moment calls start cur before b → TakesTable moment cur new before after mark
      → TakesTableInTurn moment (calls + 1) start new after mark
  called_again start calls b mark called takes =
      let P : ℕ → Type 0 = λ n. TakesTableInTurn moment n start new after mark in
      let each : suc calls ≡ calls + 1 = omega arith in
      subst P each (cur, before, b, called, takes)

-- ---- taken up at an item

-- what is left after an item hangs on patterns, direction and item alone
pub same_table_rest : (s : TableStanding) (ms : List Meaning) (d : Direction) (at : Moment) → s.patterns ≡ ms → s.direction ≡ d → (k : ℕ) (i : ℤ)
    → IsLeftAt (table_moved s at) k i ↔ IsLeftAt (new_table_standing ms at false d) k i
same_table_rest s ms d at p q k i = rw (p, q) (λ h. h, λ h. h)
