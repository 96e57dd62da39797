-- A listing over a clock's table is the listing of the clock's zone.
use Rattle.std.proofs.Common.{◌≡◌, ◌∙◌, refl, ap, sym, subst, inl, inr, arith, Bool, true, false, ℕ, ℤ, ◌≤ℤ◌, ◌<ℤ◌, int_lt, List, [], ◌∷◌, ◌++◌, map, Option, Some}
use Rattle.std.proofs.lemmas.List.{length-map}
use Rattle.std.proofs.lemmas.List.Elements.{All-contains}
use Rattle.jiff_core.proofs.SignedLemmas.{signed_arith}
use Rattle.croner_base.specs.TableZone.{table_zone, table_moment}
use Rattle.croner_base.specs.Zone.{Zone, Moment}
use Rattle.croner_base.specs.declared.time.Direction.TheVariants.{Forward}
use Rattle.croner_base.specs.declared.time.table.TableTime.{TableTime}
use Rattle.croner_base.proofs.tables.TableTests.{le_tells, lt_tells}
use Rattle.croner_pattern.specs.Meaning.{Meaning}
use Rattle.croner.specs.declared.laws.listing.ListingEnd.{ListingEnd}
use Rattle.croner.specs.declared.laws.listing.ListingEnd.TheVariants as ends
use Rattle.croner.specs.iterator.Listing.{Standing, BeginsRest, Gave, instants, new_standing}
use Rattle.croner.specs.laws.Until.{ListsUntil}
use Rattle.croner.specs.search.PatternJob.{pattern_job}
use Rattle.croner.specs.search.Runs.{Precedes}
use Rattle.croner_c.specs.Clocks.{zone_of, IsTimeOn}
use Rattle.croner_c.specs.Listings.{bound_of, end_of, run_at, seconds_of, EndsBy, ListsRuns}
use Rattle.croner_c.specs.declared.clock.Clock.{Clock}
use Rattle.croner_c.specs.declared.listing.Run.{Run}
use Rattle.croner_c.specs.declared.status.Reason.{Reason}
use Rattle.croner_c.proofs.Times.{zone_is, searchable}

-- the seconds of the runs at times
seconds_at : (times : List TableTime) → seconds_of (map run_at times) ≡ instants table_moment times
seconds_at [] = refl
seconds_at (t ∷ ts) = ap (λ (is : List ℤ). t.second ∷ is) (seconds_at ts)

-- the bound comes after neither second, and is one of them
bound_within : (until last : ℤ) → (bound_of until last ≤ℤ until) × (bound_of until last ≤ℤ last)
bound_within until last =
    elim (lt_tells last until) [
      | inl h ↦ rw h.0 (omega (arith, signed_arith, h.1), omega (arith, signed_arith, h.1))
      | inr h ↦ rw h.0 (omega (arith, signed_arith, h.1), omega (arith, signed_arith, h.1))
    ]

bound_at_last : (until last : ℤ) → int_lt last until ≡ true → bound_of until last ≡ last
bound_at_last until last h = rw h refl

bound_at_until : (until last : ℤ) → int_lt last until ≡ false → bound_of until last ≡ until
bound_at_until until last h = rw h refl

-- what doesn't come by a second comes after it
beyond : (i b : ℤ) → ¬ (i ≤ℤ b) → b <ℤ i
beyond i b out = elim (le_tells i b) [ inl h ↦ absurd (out h.1) | inr h ↦ h.1 ]

-- what was given begins what was left
begins_given : (m : Meaning) (start : Moment) (inclusive : Bool) (new : Standing) (items : List ℤ) → Gave (new_standing m start inclusive Forward) new items
    → BeginsRest (new_standing m start inclusive Forward) items
begins_given m start inclusive new items g = record {
  ordered = g.ordered;
  counts = g.counts;
  complete = λ i last counts has reaches.
      elim (g.either i counts) [
        | inl had ↦ had
        | inr left ↦ absurd (omega (arith, signed_arith, reaches, All-contains (λ x. Precedes Forward x i) items last (g.later i left) has))
      ];
}

module _ (c : Clock) (m : Meaning) (inclusive : Bool) (t : TableTime) (until : ℤ) (room : ℕ) (new : Standing) (items : List TableTime) (on : IsTimeOn c t) where
  ends_by : (end : ListingEnd) → ListsUntil (new_standing m (table_moment t) inclusive Forward) new (Some (bound_of until c.last)) room items end
      → EndsBy inclusive (pattern_job m (table_zone t.table.now)) c t.second until room (instants table_moment items) (end_of until c.last end)
  ends_by ends.Full l = inl l.ended
  ends_by (ends.Past next) l =
      let begins = begins_given m (table_moment t) inclusive new (instants table_moment items ++ next ∷ []) l.rest in
      elim (lt_tells c.last until) [
        | inl h ↦
            let bound = bound_at_last until c.last h.0 in
            let past : c.last <ℤ next = omega (arith, signed_arith, bound, beyond next (bound_of until c.last) l.ended) in
            rw h.0 (next, begins, past, h.1)
        | inr h ↦
            let bound = bound_at_until until c.last h.0 in
            let past : until <ℤ next = omega (arith, signed_arith, bound, beyond next (bound_of until c.last) l.ended) in
            rw h.0 (inr (next, begins, past))
      ]
  ends_by ends.Over l = l.ended.0
  ends_by ends.Refused l = absurd (l.ended.0 (searchable c t on))

  lists_on : (end : ListingEnd) → ListsUntil (new_standing m (table_moment t) inclusive Forward) new (Some (bound_of until c.last)) room items end
      → ListsRuns inclusive (pattern_job m (table_zone t.table.now)) c t.second until room (instants table_moment items) (end_of until c.last end)
  lists_on end l =
      let w = bound_within until c.last in
      record {
        begins = l.begins;
        by = λ k d h. let by = l.by k d h in (omega (arith, signed_arith, by, w), omega (arith, signed_arith, by, w));
        most = rw (length-map items (λ (x : TableTime). (table_moment x).instant)) l.most;
        ended = ends_by end l;
      }

  lists_runs : (old : Standing) (end : ListingEnd) → old ≡ new_standing m (table_moment t) inclusive Forward → ListsUntil old new (Some (bound_of until c.last)) room items end
      → ListsRuns inclusive (pattern_job m (zone_of c)) c t.second until room (seconds_of (map run_at items)) (end_of until c.last end)
  lists_runs old end is l =
      let l_new = subst (λ (s : Standing). ListsUntil s new (Some (bound_of until c.last)) room items end) is l in
      let in_zone = subst (λ (z : Zone). ListsRuns inclusive (pattern_job m z) c t.second until room (instants table_moment items) (end_of until c.last end)) (zone_is c t.table.now on.table) (lists_on end l_new) in
      subst (λ (is : List ℤ). ListsRuns inclusive (pattern_job m (zone_of c)) c t.second until room is (end_of until c.last end)) (sym (seconds_at items)) in_zone

  -- with the runs and the end that the call gives
  pub listed : (old : Standing) (end : ListingEnd) (bound : ℤ) (times : List TableTime) (runs : List Run) (why : Option Reason) → old ≡ new_standing m (table_moment t) inclusive Forward
      → bound ≡ bound_of until c.last → ListsUntil old new (Some bound) room items end → times ≡ items → runs ≡ map run_at times → why ≡ end_of until c.last end
      → ListsRuns inclusive (pattern_job m (zone_of c)) c t.second until room (seconds_of runs) why
  listed old end bound times runs why is bound_is l same runs_are why_is =
      let l_bound = subst (λ (b : ℤ). ListsUntil old new (Some b) room items end) bound_is l in
      let all = lists_runs old end is l_bound in
      let all_runs = subst (λ (rs : List Run). ListsRuns inclusive (pattern_job m (zone_of c)) c t.second until room (seconds_of rs) (end_of until c.last end)) (sym (runs_are ∙ ap (λ (ts : List TableTime). map run_at ts) same)) all in
      subst (λ (w : Option Reason). ListsRuns inclusive (pattern_job m (zone_of c)) c t.second until room (seconds_of runs) w) (sym why_is) all_runs
