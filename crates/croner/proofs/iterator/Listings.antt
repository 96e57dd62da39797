-- Listings of runs, item by item: a list that begins what is left, and what is left after its last item.
use Rattle.std.proofs.Common.{◌≡◌, ◌↔◌, ℤ, ◌⊎◌, sym, inl, inr, subst, Bool, false, List, [], ◌∷◌, ◌++◌, get_or, rules, arith}
use Rattle.std.proofs.lemmas.Int.{ints}
use Rattle.std.proofs.lemmas.Bool.{false≢true}
use Rattle.std.proofs.lemmas.List.Elements.{All-push, All-contains, Contains-push, Contains-append_left}
use Rattle.std.proofs.lemmas.List.Quantifiers.{all_pairs_push}
use Rattle.std.specs.List.{All, AllPairs, Contains}
use Rattle.croner.specs.search.Runs.{Job, Run, Counts, Nearest, Precedes}
use Rattle.croner_base.specs.Zone.{Zone, Moment}
use Rattle.croner.specs.search.Limit.{InSpan}
use Rattle.croner_pattern.specs.Meaning.{Meaning}
use Rattle.croner.specs.iterator.Listing.{Begins, BeginsWhere, Standing, IsLeft, moved, new_standing}
pub use Rattle.croner.proofs.zone.Walks.{is_run}
use Rattle.croner.proofs.zone.Walks.{counts_reaches}
use Rattle.croner.proofs.zone.Ahead.{opposite, same_or_ahead}
use Rattle.croner_base.specs.declared.time.Direction.{Direction}
use Rattle.croner_base.specs.declared.time.Direction.TheVariants.{Forward, Backward}

-- ---- what counts after the nearest run

-- what counts from the start is the nearest run, or counts from it
pub after_nearest : (direction : Direction) (inclusive : Bool) (job : Job) (s t i : ℤ) → Nearest direction inclusive job s t → Counts direction inclusive job s i → (i ≡ t) ⊎ Counts direction false job t i
after_nearest direction inclusive job s t i near counts =
    elim (same_or_ahead direction t i (near.nearest i counts)) [
      | inl e ↦ inl (sym e)
      | inr lt ↦ inr (inl (lt, is_run direction inclusive job s i counts))
    ]

-- an exclusive search counts nothing that comes no later than its start
pub past_start : (direction : Direction) (job : Job) (t i : ℤ) → Counts direction false job t i → Precedes direction t i
past_start direction job t i counts = elim counts [ inl (past, run) ↦ past | inr (is, e, own) ↦ absurd (false≢true is) ]

-- what counts from the nearest run counts from the start
pub counts_after : (direction : Direction) (inclusive : Bool) (job : Job) (s t i : ℤ) → Nearest direction inclusive job s t → Counts direction false job t i → Counts direction inclusive job s i
counts_after direction inclusive job s t i near counts =
    inl (omega (arith, ints, counts_reaches direction inclusive job s t near.counts, past_start direction job t i counts), is_run direction false job t i counts)

-- ---- lists

-- the items come first among those that are left, and what is left after them is the second
pub record Splits (direction : Direction) (left rest : ℤ → Type 0) (items : List ℤ) : Type 0 where
  pub ordered : AllPairs (Precedes direction) items
  pub counts : All left items
  pub either : (i : ℤ) → left i → Contains items i ⊎ rest i
  pub later : (i : ℤ) → rest i → All (λ x. Precedes direction x i) items
  pub within : (i : ℤ) → rest i → left i

-- the nearest of the rest is the next item
pub record IsNext (direction : Direction) (rest after : ℤ → Type 0) (t : ℤ) : Type 0 where
  pub is : rest t
  pub or_after : (i : ℤ) → rest i → (i ≡ t) ⊎ after i
  pub within : (i : ℤ) → after i → rest i
  pub later : (i : ℤ) → after i → Precedes direction t i

pub splits_next : (direction : Direction) (left rest after : ℤ → Type 0) (items : List ℤ) (t : ℤ) → Splits direction left rest items → IsNext direction rest after t → Splits direction left after (items ++ t ∷ [])
splits_next direction left rest after items t s n = record {
  ordered = all_pairs_push (Precedes direction) items t s.ordered (λ k d within. All-contains (λ x. Precedes direction x t) items (get_or items k d) (s.later t n.is) (k, within, Prim.search rules));
  counts = All-push left items t s.counts (s.within t n.is);
  either = λ i h.
      elim (s.either i h) [
        | inl had ↦ inl (Contains-append_left items (t ∷ []) i had)
        | inr r ↦
            elim (n.or_after i r) [
              | inl e ↦ inl (subst (Contains (items ++ t ∷ [])) (sym e) (Contains-push items t))
              | inr a ↦ inr a
            ]
      ];
  later = λ i a. All-push (λ x. Precedes direction x i) items t (s.later i (n.within i a)) (n.later i a);
  within = λ i a. s.within i (n.within i a);
}

-- such items begin the listing
pub begins_where : (direction : Direction) (left rest : ℤ → Type 0) (items : List ℤ) → Splits direction left rest items → BeginsWhere direction left items
begins_where direction left rest items h = record {
  ordered = h.ordered;
  counts = h.counts;
  complete = λ i last counts has reaches.
      elim (h.either i counts) [
        | inl had ↦ had
        | inr r ↦ absurd (omega (arith, ints, All-contains (λ x. Precedes direction x i) items last (h.later i r) has))
      ];
}

pub begins : (direction : Direction) (inclusive : Bool) (job : Job) (s : ℤ) (rest : ℤ → Type 0) (items : List ℤ) → Splits direction (Counts direction inclusive job s) rest items → Begins direction inclusive job s items
begins direction inclusive job s rest items h = begins_where direction (Counts direction inclusive job s) rest items h

-- where nothing of the rest is meant, all that is meant was given
pub all_given : (direction : Direction) (left rest Meant : ℤ → Type 0) (items : List ℤ) → Splits direction left rest items → ((i : ℤ) → rest i → Meant i → ⊥) → (i : ℤ) → left i → Meant i → Contains items i
all_given direction left rest Meant items h over i counts meant = elim (h.either i counts) [ inl had ↦ had | inr r ↦ absurd (over i r meant) ]

-- the span is that of the same direction and zone
pub same_span : (d e : Direction) (y z : Zone) (i : ℤ) → d ≡ e → y ≡ z → InSpan e z.reads i → InSpan d y.reads i
same_span d e y z i same_way same_zone span = subst (λ (x : Direction). InSpan x y.reads i) (sym same_way) (subst (λ (x : Zone). InSpan e x.reads i) (sym same_zone) span)

-- the nearest run is the next of what counts, and what counts from it is left
pub is_next : (direction : Direction) (inclusive : Bool) (job : Job) (s t : ℤ) → Nearest direction inclusive job s t → IsNext direction (Counts direction inclusive job s) (Counts direction false job t) t
is_next direction inclusive job s t near = record {
  is = near.counts;
  or_after = λ i h. after_nearest direction inclusive job s t i near h;
  within = λ i h. counts_after direction inclusive job s t i near h;
  later = λ i h. past_start direction job t i h;
}

-- back from the next run: the run itself
pub there_and_back : (job : Job) (r n b : ℤ) → Run job r → Nearest Forward false job r n → Nearest Backward false job n b → b ≡ r
there_and_back job r n b run next back =
    let le = back.nearest r (inl (opposite Forward r n (past_start Forward job r n next.counts), run)) in
    elim (same_or_ahead Backward b r le) [
      | inl e ↦ e
      | inr between ↦
          let on = next.nearest b (inl (opposite Backward b r between, is_run Backward false job n b back.counts)) in
          absurd (omega (arith, ints, opposite Backward n b (past_start Backward job n b back.counts)))
    ]

-- ---- taken up at an item

-- what is left after an item hangs on pattern, direction and item alone
pub same_rest : (s : Standing) (m : Meaning) (d : Direction) (at : Moment) → s.pattern ≡ m → s.direction ≡ d → (i : ℤ)
    → IsLeft (moved s at) i ↔ IsLeft (new_standing m at false d) i
same_rest s m d at p q i = rw (p, q) (λ h. h, λ h. h)
