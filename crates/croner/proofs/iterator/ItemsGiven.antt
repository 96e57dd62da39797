-- What an iterator gave between two standings, call by call.
use Rattle.std.proofs.Common.{◌≡◌, ℕ, suc, ℤ, ◌⊎◌, inl, inr, sym, subst, arith, Bool, true, false, List, [], ◌∷◌, ◌++◌, None, ap, ◌∙◌, IsTrue, length, ◌+◌, Option}
use Rattle.croner_base.specs.Calm.{IsCalm}
use Rattle.croner_base.specs.Zone.{Zone, Moment}
use Rattle.croner_base.specs.declared.errors.CronError.{CronError}
use Rattle.croner_base.specs.declared.errors.CronError.TheVariants.{TimeSearchLimitExceeded}
use Rattle.croner_base.specs.declared.time.Direction.{Direction}
use Rattle.std.specs.List.{All}
use Rattle.croner.specs.search.Runs.{Counts}
use Rattle.croner.specs.iterator.Faults.{fault_of, IsMemoryAlone}
use Rattle.croner.specs.search.Premises.{IsSearchable, StartsCalm}
use Rattle.croner.specs.search.PatternJob.{pattern_job}
use Rattle.croner.specs.search.Limit.{InSpan}
use Rattle.croner.specs.iterator.Listing.{Standing, standing_of, instants, Takes, TakesInTurn, IsLeft, BeginsRest, Gave, GaveAll, moved, counts_position, job_at, GivesItem, GivesNone}
use Rattle.croner.specs.laws.Neighbours.{IsWholeIn}
use Rattle.croner.specs.declared.iterator.CronIterator.{CronIterator}
use Rattle.std.proofs.lemmas.Bool.{false≢true}
use Rattle.std.proofs.lemmas.List.{map_push, length_push}
use Rattle.std.proofs.lemmas.List.Elements.{All-push}
use Rattle.croner.proofs.iterator.Listings.{all_given, same_span, Splits, splits_next, IsNext, is_next, is_run, begins}
use Rattle.croner.proofs.iterator.Faults.{no_fault_is_limit}
use Rattle.croner.proofs.iterator.ThereAndBack.{searchable_run}

-- the invariant of repeated calls
pub record Goes (old cur : Standing) (items : List ℤ) : Type 0 where
  pub direction : cur.direction ≡ old.direction
  pub zone : cur.position.zone ≡ old.position.zone
  pub splits : StartsCalm old.position → Splits old.direction (IsLeft old) (IsLeft cur) items
  pub calm : StartsCalm old.position → StartsCalm cur.position
  pub searchable : IsSearchable old.position → IsSearchable cur.position

-- a call without an item
pub goes_on : (lack : Bool) (old cur new : Standing) (items : List ℤ) → Goes old cur items → GivesNone lack cur new → Goes old new items
goes_on lack old cur new items g n =
    let P : Standing → Type 0 = λ s. Goes old s items in
    subst P (sym n.stands) (record {
      direction = g.direction;
      zone = g.zone;
      splits = g.splits;
      calm = g.calm;
      searchable = g.searchable;
    })

-- what a search finds in a calm zone is a start in a calm zone
calm_item : (cur : Standing) (item : Moment) → StartsCalm cur.position → item.zone ≡ cur.position.zone → item.fraction ≡ 0 → StartsCalm item
calm_item cur item p same_zone whole = record { calm = subst IsCalm (sym same_zone) p.calm; whole = whole }

-- and a run that searches are promised from, where the start was
searchable_item : (cur : Standing) (item : Moment) → IsSearchable cur.position → item.zone ≡ cur.position.zone → item.fraction ≡ 0
    → Counts cur.direction (counts_position cur) (job_at cur) cur.position.instant item.instant → IsSearchable item
searchable_item cur item p same_zone whole counts =
    searchable_run cur.pattern cur.position item p same_zone whole
    (is_run cur.direction (counts_position cur) (job_at cur) cur.position.instant item.instant counts)

next_of : (cur new : Standing) (item : Moment) → StartsCalm cur.position → GivesItem cur item new → IsNext cur.direction (IsLeft cur) (IsLeft (moved cur item)) item.instant
next_of cur new item p g =
    let P : Zone → Type 0 = λ z. IsNext cur.direction (IsLeft cur) (Counts cur.direction false (pattern_job cur.pattern z) item.instant) item.instant in
    subst P (sym g.found.zone) (is_next cur.direction (counts_position cur) (job_at cur) cur.position.instant item.instant (g.found.nearest p))

-- a call with an item
pub goes_to : (old cur new : Standing) (items : List ℤ) (item : Moment) → Goes old cur items → GivesItem cur item new → Goes old new (items ++ item.instant ∷ [])
goes_to old cur new items item g n =
    let P : Standing → Type 0 = λ s. Goes old s (items ++ item.instant ∷ []) in
    subst P (sym n.stands) (record {
      direction = g.direction;
      zone = n.found.zone ∙ g.zone;
      splits = λ p.
          let Q : Direction → Type 0 = λ d. IsNext d (IsLeft cur) (IsLeft (moved cur item)) item.instant in
          splits_next old.direction (IsLeft old) (IsLeft cur) (IsLeft (moved cur item)) items item.instant (g.splits p)
          (subst Q g.direction (next_of cur new item (g.calm p) n));
      calm = λ p. calm_item cur item (g.calm p) n.found.zone n.found.whole;
      searchable = λ p.
          let here = g.searchable p in
          searchable_item cur item here n.found.zone n.found.whole (n.found.nearest here.starts).counts;
    })

-- what the calls show
pub gave : (old cur : Standing) (items : List ℤ) → Goes old cur items → StartsCalm old.position → Gave old cur items
gave old cur items g p =
    let s = g.splits p in
    record { ordered = s.ordered; counts = s.counts; either = s.either; later = s.later; within = s.within }

pub begins_rest : (old cur : Standing) (items : List ℤ) → Goes old cur items → StartsCalm old.position → BeginsRest old items
begins_rest old cur items g p =
    begins old.direction (counts_position old) (job_at old) old.position.instant (IsLeft cur) items (g.splits p)

-- nothing that is left lies in the span
abbrev pub IsOver : Standing → Standing → Type 0
IsOver old cur = StartsCalm old.position → (i : ℤ) → IsLeft cur i → InSpan old.direction old.position.zone.reads i → ⊥

-- without a fault it is the limit that refused the search
limit_without : (lack : Bool) (cur new : Standing) (n : GivesNone lack cur new) → new.fault ≡ None → n.refusal ≡ TimeSearchLimitExceeded
limit_without lack cur new n without =
    let fault : Standing → Option CronError = λ s. s.fault in
    no_fault_is_limit n.refusal (sym (ap fault n.stands) ∙ without)

-- a call without an item and without a fault says so
pub is_over : (lack : Bool) (old cur new : Standing) (items : List ℤ) → Goes old cur items → GivesNone lack cur new → new.fault ≡ None → IsOver old new
is_over lack old cur new items g n without =
    let P : Standing → Type 0 = λ s. IsOver old s in
    subst P (sym n.stands) (λ p i left span.
    let here = same_span cur.direction old.direction cur.position.zone old.position.zone i g.direction g.zone span in
    n.refused.limit (g.calm p) (limit_without lack cur new n without) i here left)

pub gave_all : (old cur : Standing) (items : List ℤ) → Goes old cur items → IsOver old cur → StartsCalm old.position → GaveAll old items
gave_all old cur items g over p = all_given old.direction (IsLeft old) (IsLeft cur) (InSpan old.direction old.position.zone.reads) items (g.splits p) (over p)

-- as many items as calls, or all of them
pub counted_all : (old cur : Standing) (items : List ℤ) (n calls : ℕ) → Goes old cur items → (n ≡ calls) ⊎ IsOver old cur → IsSearchable old.position → (n ≡ calls) ⊎ GaveAll old items
counted_all old cur items n calls g counted p =
    elim counted [
      | inl each ↦ inl each
      | inr over ↦ inr (gave_all old cur items g over p.starts)
    ]

-- what is over stays over
still_over : (old cur new : Standing) (items : List ℤ) (item : Moment) → Goes old cur items → GivesItem cur item new → IsOver old cur → IsOver old new
still_over old cur new items item g n over =
    let P : Standing → Type 0 = λ s. IsOver old s in
    subst P (sym n.stands) (λ p i left span. over p i ((next_of cur new item (g.calm p) n).within i left) span)

-- where what a search needs is held, a call without an item keeps nothing but lack of memory
memory_alone : (lack : Bool) (cur new : Standing) → GivesNone lack cur new → IsSearchable cur.position → IsMemoryAlone lack new.fault
memory_alone lack cur new n p =
    let fault : Standing → Option CronError = λ s. s.fault in
    elim (n.refused.promised p) [
      | inl limit ↦ inl (ap fault n.stands ∙ ap fault_of limit)
      | inr (wanting, can) ↦ inr (ap fault n.stands ∙ ap fault_of wanting, can)
    ]

-- and without lack of memory nothing at all
pub without_fault : (lack : Bool) (cur new : Standing) → GivesNone lack cur new → lack ≡ false → IsSearchable cur.position → new.fault ≡ None
without_fault lack cur new n memory p =
    elim (memory_alone lack cur new n p) [
      | inl none ↦ none
      | inr (wanting, can) ↦ let t : IsTrue false = subst IsTrue memory can in absurd (false≢true t)
    ]

-- one call more
module _ {T : Type 0} (moment : T → Moment) (lack : Bool) (old : Standing) (cur new : CronIterator T) (before after : List T) where
  pub goes_by_call : (b : Bool) → Goes old (standing_of moment cur) (instants moment before) → Takes moment lack cur new before after b → Goes old (standing_of moment new) (instants moment after)
  goes_by_call true g (none, without, e) =
      let P : List T → Type 0 = λ ts. Goes old (standing_of moment new) (instants moment ts) in
      subst P (sym e) (goes_on lack old (standing_of moment cur) (standing_of moment new) (instants moment before) g none)
  goes_by_call false g takes =
      let P : List T → Type 0 = λ ts. Goes old (standing_of moment new) (instants moment ts) in
      let Q : List ℤ → Type 0 = λ is. Goes old (standing_of moment new) is in
      elim takes [
        | inl (none, with_fault, e) ↦ subst P (sym e) (goes_on lack old (standing_of moment cur) (standing_of moment new) (instants moment before) g none)
        | inr (t, item, e) ↦
            subst P (sym e) (subst Q (sym (map_push (λ x. (moment x).instant) before t))
            (goes_to old (standing_of moment cur) (standing_of moment new) (instants moment before) (moment t) g item))
      ]

  pub over_by_call : (b : Bool) → Goes old (standing_of moment cur) (instants moment before) → Takes moment lack cur new before after b → IsTrue b → IsOver old (standing_of moment new)
  over_by_call true g (none, without, e) h = is_over lack old (standing_of moment cur) (standing_of moment new) (instants moment before) g none without
  over_by_call false g takes h = absurd (false≢true h)

  -- and one more of the calls in turn
  pub called_again : (start : CronIterator T) (calls : ℕ) (b mark : Bool) → TakesInTurn moment lack calls start cur before b → Takes moment lack cur new before after mark
      → TakesInTurn moment lack (calls + 1) start new after mark
  called_again start calls b mark called takes =
      let P : ℕ → Type 0 = λ n. TakesInTurn moment lack n start new after mark in
      let each : suc calls ≡ calls + 1 = omega arith in
      subst P each (cur, before, b, called, takes)

  -- each item is a whole second of the zone
  pub wholes_by_call : (b : Bool) → Goes old (standing_of moment cur) (instants moment before) → Takes moment lack cur new before after b
      → All (λ t. IsWholeIn old.position.zone (moment t)) before → All (λ t. IsWholeIn old.position.zone (moment t)) after
  wholes_by_call true g (none, without, e) wholes = subst (All (λ t. IsWholeIn old.position.zone (moment t))) (sym e) wholes
  wholes_by_call false g takes wholes =
      let P : List T → Type 0 = All (λ t. IsWholeIn old.position.zone (moment t)) in
      elim takes [
        | inl (none, with_fault, e) ↦ subst P (sym e) wholes
        | inr (t, item, e) ↦
            subst P (sym e) (All-push (λ x. IsWholeIn old.position.zone (moment x)) before t wholes (record { zone = item.found.zone ∙ g.zone; whole = item.found.whole }))
      ]

  -- where what searches need is held, the call keeps nothing but lack of memory
  pub fault_by_call : (b : Bool) → Goes old (standing_of moment cur) (instants moment before) → Takes moment lack cur new before after b
      → IsSearchable old.position → IsMemoryAlone lack (standing_of moment new).fault
  fault_by_call true g (none, without, e) p = inl without
  fault_by_call false g takes p =
      let fault : Standing → Option CronError = λ s. s.fault in
      elim takes [
        | inl (none, with_fault, e) ↦ memory_alone lack (standing_of moment cur) (standing_of moment new) none (g.searchable p)
        | inr (t, item, e) ↦ inl (ap fault item.stands)
      ]

  -- over a backend that cannot lack memory there is an item for each call, or nothing is left in the span
  pub counted_by_call : (b : Bool) (calls : ℕ) → Goes old (standing_of moment cur) (instants moment before) → Takes moment lack cur new before after b
      → lack ≡ false → (IsSearchable old.position → (length before ≡ calls) ⊎ IsOver old (standing_of moment cur))
      → IsSearchable old.position → (length after ≡ calls + 1) ⊎ IsOver old (standing_of moment new)
  counted_by_call true calls g (none, without, e) memory counted p = inr (is_over lack old (standing_of moment cur) (standing_of moment new) (instants moment before) g none without)
  counted_by_call false calls g takes memory counted p =
      elim takes [
        | inl (none, with_fault, e) ↦
            inr (is_over lack old (standing_of moment cur) (standing_of moment new) (instants moment before) g none (without_fault lack (standing_of moment cur) (standing_of moment new) none memory (g.searchable p)))
        | inr (t, item, e) ↦
            elim (counted p) [
              | inl each ↦ inl (ap length e ∙ length_push before t ∙ ap (λ (n : ℕ). n + 1) each)
              | inr over ↦ inr (still_over old (standing_of moment cur) (standing_of moment new) (instants moment before) (moment t) g item over)
            ]
      ]
