-- Listings up to a start, the latest first, and what their ends say.
use Rattle.std.proofs.Common.{◌≡◌, ◌≤◌, ◌∙◌, ◌∷◌, ◌++◌, [], ℕ, ℤ, Bool, true, false, List, Option, Some, None, length, map, get_or, refl, sym, ap, subst, inl, inr, if◌then◌else◌, arith}
use Rattle.std.proofs.lemmas.Int.{ints}
use Rattle.std.proofs.lemmas.List.{length-map}
use Rattle.std.proofs.lemmas.List.Elements.{All-map, All-contains, Contains-push, Contains-push_cases}
use Rattle.std.specs.List.{All, Contains}
use Rattle.std.specs.Prelude.{◌⊎◌, ◌≤ℤ◌, ◌<ℤ◌}
use Rattle.croner_base.specs.declared.errors.CronError.{CronError}
use Rattle.croner_base.specs.declared.errors.CronError.TheVariants.{OutOfMemory}
use Rattle.croner_base.specs.declared.time.Direction.TheVariants.{Backward}
use Rattle.croner_base.specs.declared.time.table.TableTime.{TableTime}
use Rattle.croner_base.specs.TableZone.{table_moment, table_zone}
use Rattle.croner_pattern.specs.Meaning.{Meaning}
use Rattle.croner.specs.iterator.Listing.{Standing, IsLeft, BeginsWhere, instants}
use Rattle.croner.specs.laws.Neighbours.{IsWholeIn}
use Rattle.croner.specs.laws.Until.{ComesBy, ListsUntil}
use Rattle.croner.specs.search.Runs.{Precedes, Reaches}
use Rattle.croner.specs.declared.laws.listing.ListingEnd.{ListingEnd}
use Rattle.croner.specs.declared.laws.listing.ListingEnd.TheVariants as endings
use Rattle.croncheck_runs.specs.declared.previous.Previous.{Previous}
use Rattle.croncheck_runs.specs.declared.runs.End.{End}
use Rattle.croncheck_runs.specs.declared.runs.End.TheVariants as ends
use Rattle.croncheck_runs.specs.declared.runs.Run.{Run}
use Rattle.croncheck_runs.specs.declared.runs.Runs.{Runs}
use Rattle.crontab_runs.specs.declared.job.Start.{Start}
use Rattle.crontab_runs.specs.declared.listing.StartsEnd.{StartsEnd}
use Rattle.crontab_runs.specs.declared.listing.StartsEnd.TheVariants as starts_ends
use Rattle.crontab_runs.specs.Listing.{ListsStartsIn}
use Rattle.crontab_runs.specs.Searches.{IsStartOf}
use Rattle.crontab_runs.specs.Starts.{CronJob}
use Rattle.croncheck_runs.specs.Private.EndsBefore.{end_of_starts, EndsBefore}
use Rattle.croncheck_runs.specs.Private.Listed.{once, Seen, run_seen, seen_on, TellsMadeUp}
use Rattle.croncheck_runs.specs.Runs.{MakesUp, seconds_of, Rest, StartsWell}
use Rattle.croncheck_runs.specs.Previous.{ends_at, runs_up_to, starts_up_to, GaveFrom, GaveYearsBefore, IsEndBefore, IsListedBefore}
use Rattle.croncheck_runs.proofs.Listings.{searchable, after_of, or_else, all_of_map, once_seconds, start_seconds, run_seconds, on_seconds, made_up_on, ending_of}

-- what comes by a second backward lies no earlier than it, and the other way round
no_earlier : (from i : ℤ) → ComesBy Backward (Some from) i → from ≤ℤ i
no_earlier from i by = let reaches : Reaches Backward i from = by in omega (arith, ints, reaches)

comes_by : (from i : ℤ) → from ≤ℤ i → ComesBy Backward (Some from) i
comes_by from i le = let reaches : Reaches Backward i from = omega (arith, ints, le) in reaches

all_from : (from : ℤ) (items : List ℤ) → All (ComesBy Backward (Some from)) items → All (λ i. from ≤ℤ i) items
all_from from items by = λ k d inside. no_earlier from (get_or items k d) (by k d inside)

-- where a run lies before a second, each that is left from that second on is among the items that come before it in the listing
from_past : (left after : ℤ → Type 0) (items : List ℤ) (i from : ℤ) → ((j : ℤ) → left j → Contains (items ++ i ∷ []) j ⊎ after j)
    → ((j : ℤ) → after j → All (λ x. Precedes Backward x j) (items ++ i ∷ [])) → (ComesBy Backward (Some from) i → ⊥) → GaveFrom left from items
from_past left after items i from either follows past = λ j is ge.
    elim (either j is) [
      | inl had ↦
          elim (Contains-push_cases items i j had) [
            | inl earlier ↦ earlier
            | inr same ↦ absurd (past (comes_by from i (omega (arith, ints, same, ge))))
          ]
      | inr rest ↦
          let before : Precedes Backward i j = All-contains (λ x. Precedes Backward x j) (items ++ i ∷ []) i (follows j rest) (Contains-push items i) in
          absurd (past (comes_by from i (omega (arith, ints, before, ge))))
    ]

-- the same where the listing begins with the items and that run
from_next : (left : ℤ → Type 0) (items : List ℤ) (i from : ℤ) → BeginsWhere Backward left (items ++ i ∷ []) → (ComesBy Backward (Some from) i → ⊥)
    → GaveFrom left from items
from_next left items i from begins past = λ j is ge.
    let before : i <ℤ from = after_of from i (λ le. past (comes_by from i le)) in
    let reaches : Reaches Backward j i = omega (arith, ints, before, ge) in
    elim (Contains-push_cases items i j (begins.complete j i is (Contains-push items i) reaches)) [
      | inl earlier ↦ earlier
      | inr same ↦ absurd (past (comes_by from i (omega (arith, ints, same, ge))))
    ]

-- how a listing back to a second ended
abbrev Stops : Rest → ℤ → ℕ → List ℤ → Option CronError → ListingEnd → Type 0
Stops rest from most items fault endings.Full = length items ≡ most
Stops rest from most items fault (endings.Past i) = GaveFrom rest.left from items
Stops rest from most items fault endings.Over = GaveYearsBefore rest items
Stops rest from most items fault endings.Refused = StartsWell rest → fault ≡ Some OutOfMemory

years_are : (rest : Rest) (asked : Previous) (items : List ℤ) (b : Bool) → asked.is_whole ≡ b → GaveYearsBefore rest items
    → IsEndBefore rest asked items (if b then ends.Over else ends.Window)
years_are rest asked items true is gave = (is, gave)
years_are rest asked items false is gave = inr gave

end_is : (rest : Rest) (asked : Previous) (items : List ℤ) (fault : Option CronError) (ending : ListingEnd) (end : End)
    → Stops rest asked.from asked.count items fault ending → EndsBefore asked.is_whole ending fault end → IsEndBefore rest asked items end
end_is rest asked items fault endings.Full end stops is = subst (λ (e : End). IsEndBefore rest asked items e) (sym is) stops
end_is rest asked items fault (endings.Past i) end stops is = subst (λ (e : End). IsEndBefore rest asked items e) (sym is) (inl stops)
end_is rest asked items fault endings.Over end stops is =
    subst (λ (e : End). IsEndBefore rest asked items e) (sym is) (years_are rest asked items asked.is_whole refl stops)
end_is rest asked items None endings.Refused end stops is = absurd is
end_is rest asked items (Some fault) endings.Refused end stops is =
    subst (λ (e : End). IsEndBefore rest asked items e) (sym is.1.1) (λ well. is.0 (ap (or_else fault) (stops well)))

-- ---- of one pattern

module _ (m : Meaning) (asked : Previous) where
  abbrev rest : Rest
  rest = (runs_up_to m asked.start).rest

  stops_is : (new : Standing) (items : List TableTime) (fault : Option CronError) (ending : ListingEnd)
      → ListsUntil (ends_at m asked.start) new (Some asked.from) asked.count items ending
      → Stops rest asked.from asked.count (instants table_moment items) fault ending
  stops_is new items fault endings.Full l = l.ended
  stops_is new items fault (endings.Past i) l =
      from_past (IsLeft (ends_at m asked.start)) (IsLeft new) (instants table_moment items) i asked.from l.rest.either l.rest.later l.ended
  stops_is new items fault endings.Over l = l.ended.0
  stops_is new items fault endings.Refused l = λ well. absurd (l.ended.0 (searchable asked.start well))

  is_listed : (new : Standing) (times : List TableTime) (r : Runs) (fault : Option CronError) (ending : ListingEnd)
      → r.items.items ≡ map once times → ListsUntil (ends_at m asked.start) new (Some asked.from) asked.count times ending
      → EndsBefore asked.is_whole ending fault r.end → IsListedBefore (runs_up_to m asked.start) asked r
  is_listed new times r fault ending made l is =
      let items = instants table_moment times in
      let same : items ≡ seconds_of r.items.items = sym (ap seconds_of made ∙ once_seconds times) in
      let few : length (map once times) ≤ asked.count = omega (arith, length-map times once, l.most) in
      record {
        begins = subst (λ (is : List ℤ). BeginsWhere Backward rest.left is) same l.begins;
        times = subst (λ (runs : List Run). All (λ run. run.count ≡ 1) runs) (sym made) (All-map (λ (run : Run). run.count ≡ 1) once times (λ k d inside. refl));
        made_up = subst (λ (runs : List Run). All (λ run. run.made_up ≡ None) runs) (sym made) (All-map (λ (run : Run). run.made_up ≡ None) once times (λ k d inside. refl));
        most = subst (λ (runs : List Run). length runs ≤ asked.count) (sym made) few;
        on_clock = subst (λ (runs : List Run). All (λ run. IsWholeIn (table_moment asked.start).zone (table_moment run.time)) runs) (sym made)
            (All-map (λ (run : Run). IsWholeIn (table_moment asked.start).zone (table_moment run.time)) once times l.whole);
        followed = subst (λ (is : List ℤ). All (λ i. asked.from ≤ℤ i) is) same (all_from asked.from items l.by);
        end = subst (λ (is : List ℤ). IsEndBefore rest asked is r.end) same
            (end_is rest asked items fault ending r.end (stops_is new times fault ending l) is);
      }

-- of an iterator that is new at the start, and goes back to the second
pub listed_back : (m : Meaning) (asked : Previous) (at new : Standing) (until : Option ℤ) (most : ℕ) (times : List TableTime) (r : Runs)
    (fault : Option CronError) (ending : ListingEnd) → at ≡ ends_at m asked.start → until ≡ Some asked.from → most ≡ asked.count
    → r.items.items ≡ map once times → ListsUntil at new until most times ending → EndsBefore asked.is_whole ending fault r.end
    → IsListedBefore (runs_up_to m asked.start) asked r
listed_back m asked at new until most times r fault ending begins back at_most made l is =
    is_listed m asked new times r fault ending made
    (subst (λ (s : Standing). ListsUntil s new (Some asked.from) asked.count times ending) begins
    (subst (λ (u : Option ℤ). ListsUntil at new u asked.count times ending) back
    (subst (λ (n : ℕ). ListsUntil at new until n times ending) at_most l))) is

-- ---- of a job of a crontab

ends_by : (is_whole : Bool) (ending : StartsEnd) (end : End) → end ≡ end_of_starts is_whole ending → EndsBefore is_whole (ending_of ending) None end
ends_by is_whole starts_ends.Full end is = is
ends_by is_whole (starts_ends.Past next) end is = is
ends_by is_whole starts_ends.Over end is = is

module _ (job : CronJob) (asked : Previous) where
  abbrev rest_of_starts : Rest
  rest_of_starts = (starts_up_to job asked.start).rest

  starts_stop : (starts : List Start) (ending : StartsEnd) → ListsStartsIn Backward job (table_moment asked.start) (Some asked.from) asked.count starts ending
      → Stops rest_of_starts asked.from asked.count (start_seconds starts) None (ending_of ending)
  starts_stop starts starts_ends.Full l = length-map starts (λ (s : Start). s.second) ∙ l.ended
  starts_stop starts (starts_ends.Past next) l = from_next rest_of_starts.left (start_seconds starts) next.second asked.from l.ended.2 l.ended.1
  starts_stop starts starts_ends.Over l = l.ended

  -- a start on the clock, as it is seen of a run
  abbrev IsStartHere : Seen → Type 0
  IsStartHere v = IsStartOf job (table_moment asked.start).zone v.start × (v.table ≡ asked.start.table.now)

  starts_listed_is : (starts : List Start) (r : Runs) (ending : StartsEnd) → map run_seen r.items.items ≡ map (seen_on asked.start.table.now) starts
      → All (TellsMadeUp job) r.items.items → ListsStartsIn Backward job (table_moment asked.start) (Some asked.from) asked.count starts ending
      → r.end ≡ end_of_starts asked.is_whole ending → IsListedBefore (starts_up_to job asked.start) asked r
  starts_listed_is starts r ending made made_up l is =
      let table = asked.start.table.now in
      let runs = r.items.items in
      let items = start_seconds starts in
      let same : items ≡ seconds_of runs = sym (sym (run_seconds runs) ∙ ap (map (λ (v : Seen). v.start.second)) made ∙ on_seconds table starts) in
      let as_many : length (map run_seen runs) ≡ length (map (seen_on table) starts) = ap length made in
      let few : length runs ≤ asked.count = omega (arith, as_many, length-map runs run_seen, length-map starts (seen_on table), l.most) in
      let by : All (ComesBy Backward (Some asked.from)) items = All-map (ComesBy Backward (Some asked.from)) (λ (s : Start). s.second) starts l.by in
      let here : All IsStartHere (map run_seen runs) =
      subst (λ (vs : List Seen). All IsStartHere vs) (sym made) (All-map IsStartHere (seen_on table) starts (λ k d inside. (l.each k d inside, refl))) in
      let each : All (λ (run : Run). IsStartHere (run_seen run)) runs = all_of_map IsStartHere run_seen runs here in
      let told_here : All (λ (run : Run). MakesUp job (table_moment asked.start).zone run.time.second run.made_up) runs =
      λ k d inside. made_up_on job table (get_or runs k d) (each k d inside).1 (made_up k d inside) in
      record {
        begins = subst (λ (is : List ℤ). BeginsWhere Backward rest_of_starts.left is) same l.begins;
        times = λ k d inside. (each k d inside).0;
        made_up = λ k d inside. told_here k d inside;
        most = few;
        on_clock = λ k d inside. record { zone = ap table_zone (each k d inside).1; whole = refl };
        followed = subst (λ (is : List ℤ). All (λ i. asked.from ≤ℤ i) is) same (all_from asked.from items by);
        end = subst (λ (is : List ℤ). IsEndBefore rest_of_starts asked is r.end) same
            (end_is rest_of_starts asked items None (ending_of ending) r.end (starts_stop starts ending l) (ends_by asked.is_whole ending r.end is));
      }

-- listed back to the second
pub starts_listed_back : (job : CronJob) (asked : Previous) (until : Option ℤ) (most : ℕ) (starts : List Start) (r : Runs) (ending : StartsEnd)
    → until ≡ Some asked.from → most ≡ asked.count → map run_seen r.items.items ≡ map (seen_on asked.start.table.now) starts
    → All (TellsMadeUp job) r.items.items → ListsStartsIn Backward job (table_moment asked.start) until most starts ending → r.end ≡ end_of_starts asked.is_whole ending
    → IsListedBefore (starts_up_to job asked.start) asked r
starts_listed_back job asked until most starts r ending back at_most made made_up l is =
    starts_listed_is job asked starts r ending made made_up
    (subst (λ (u : Option ℤ). ListsStartsIn Backward job (table_moment asked.start) u asked.count starts ending) back
    (subst (λ (n : ℕ). ListsStartsIn Backward job (table_moment asked.start) until n starts ending) at_most l)) is
