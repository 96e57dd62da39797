-- Listings up to a bound on the clock of a table, and what their ends say, whatever is listed.
use Rattle.std.proofs.Common.{◌≡◌, ◌≤◌, ◌==◌, ◌∙◌, ◌∷◌, ◌++◌, [], ℕ, ℤ, Bool, true, false, List, Option, Some, None, length, map, get_or, refl, sym, ap, subst, inl, inr, if◌then◌else◌, arith}
use Rattle.std.proofs.lemmas.Bool.{false≢true}
use Rattle.std.proofs.lemmas.Bool.Decides.{nat_tests}
use Rattle.std.proofs.lemmas.Int.{ints}
use Rattle.std.proofs.lemmas.List.{length-map, get_or-map}
use Rattle.std.proofs.lemmas.List.Elements.{All-map, All-contains, Contains-push, Contains-push_cases}
use Rattle.std.specs.List.{All, Contains}
use Rattle.std.specs.Prelude.{◌⊎◌, ◌↔◌, int_le, int_lt, IsTrue, ◌≤ℤ◌, ◌<ℤ◌}
use Rattle.croner_base.specs.declared.errors.CronError.{CronError}
use Rattle.croner_base.specs.declared.errors.CronError.TheVariants.{OutOfMemory}
use Rattle.croner_base.specs.declared.time.Direction.TheVariants.{Forward}
use Rattle.croner_base.specs.declared.time.table.ClockTable.{ClockTable}
use Rattle.croner_base.specs.declared.time.table.TableTime.{TableTime}
use Rattle.croner_base.specs.Calm.{IsStart}
use Rattle.croner_base.specs.Table.{is_table_second}
use Rattle.croner_base.specs.TableZone.{table_moment, table_zone}
use Rattle.croner_base.specs.Zone.{reading}
use Rattle.croner_base.proofs.tables.TableCalm.{clock_calm, table_holds}
use Rattle.croner_base.proofs.tables.TableTests.{le_of}
use Rattle.croner_pattern.specs.Meaning.{Meaning}
use Rattle.croner.specs.iterator.Listing.{Standing, IsLeft, BeginsWhere, instants, job_at}
use Rattle.croner.specs.laws.Neighbours.{IsWholeIn}
use Rattle.croner.specs.laws.Until.{ComesBy, ListsUntil}
use Rattle.croner.specs.search.Premises.{StartsCalm, IsSearchable}
use Rattle.croner.specs.search.Runs.{Precedes}
use Rattle.croner.specs.declared.laws.listing.ListingEnd.{ListingEnd}
use Rattle.croner.specs.declared.laws.listing.ListingEnd.TheVariants as endings
use Rattle.croncheck_runs.specs.declared.runs.End.{End}
use Rattle.croncheck_runs.specs.declared.runs.End.TheVariants as ends
use Rattle.croncheck_runs.specs.declared.runs.Listing.{Listing}
use Rattle.croncheck_runs.specs.declared.runs.Listing.TheVariants as listings
use Rattle.croncheck_runs.specs.declared.runs.Run.{Run}
use Rattle.croncheck_runs.specs.declared.runs.Runs.{Runs}
use Rattle.crontab_runs.specs.declared.job.Start.{Start}
use Rattle.crontab_runs.specs.declared.listing.StartsEnd.{StartsEnd}
use Rattle.crontab_runs.specs.declared.listing.StartsEnd.TheVariants as starts_ends
use Rattle.crontab_runs.specs.Listing.{ListsStarts}
use Rattle.crontab_runs.specs.Searches.{IsStartOf}
use Rattle.crontab_runs.specs.Starts.{CronJob, cron_job}
use Rattle.crontab_runs.proofs.StartBounds.{start_held}
use Rattle.croncheck_runs.specs.Private.Ends.{bound, limit, earlier_of, full_end, end_before, end_of_years, end_of_starts, EndsBy}
use Rattle.croncheck_runs.specs.Private.Listed.{once, Seen, run_seen, seen_on, TellsMadeUp}
use Rattle.croncheck_runs.specs.Runs.{starts, MakesUp, seconds_of, Rest, runs_after, runs_listed, starts_after, starts_listed, GaveUntil, GaveYears, IsInWindow, LeavesOne, StartsWell, IsMore, IsEnd, IsAsked, IsListed}
use Rattle.croncheck_runs.proofs.OwnRuns.{counts_after}

-- the clock of a table is calm
pub starts_calm : (t : TableTime) → StartsCalm (table_moment t)
starts_calm t = record { calm = clock_calm t.table.now.first_offset t.table.now.changes.items t.table.now.calm; whole = refl }

-- and holds what a search needs
pub searchable : (t : TableTime) → IsStart (reading (table_moment t)) → IsSearchable (table_moment t)
searchable t h = record { starts = starts_calm t; held = table_holds t h.0 h.1 }

-- a test that is false says that a fact isn't so
pub not_so : (P : Type 0) (b : Bool) → IsTrue b ↔ P → b ≡ false → P → ⊥
not_so P b iff isnt p = absurd (false≢true (sym isnt ∙ iff.1 p))

-- what doesn't come by a second lies after it
after_by : (a b : ℤ) (t : Bool) → int_le a b ≡ t → (a ≤ℤ b → ⊥) → b <ℤ a
after_by a b true test isnt = absurd (isnt (le_of a b test))
after_by a b false test isnt = grind (arith, ints)

pub after_of : (a b : ℤ) → (a ≤ℤ b → ⊥) → b <ℤ a
after_of a b isnt = after_by a b (int_le a b) refl isnt

-- the run past a bound is left, and each that is left before it is among the items
pub next_past : (left after : ℤ → Type 0) (items : List ℤ) (i : ℤ) → All left (items ++ i ∷ [])
    → ((j : ℤ) → left j → Contains (items ++ i ∷ []) j ⊎ after j) → ((j : ℤ) → after j → All (λ x. Precedes Forward x j) (items ++ i ∷ []))
    → left i × ((j : ℤ) → left j → j <ℤ i → Contains items j)
next_past left after items i counts either follows = (
  All-contains left (items ++ i ∷ []) i counts (Contains-push items i),
  λ j is before.
      elim (either j is) [
        | inl had ↦ elim (Contains-push_cases items i j had) [ inl earlier ↦ earlier | inr same ↦ absurd (omega (arith, ints, same, before)) ]
        | inr rest ↦
            let past : i <ℤ j = All-contains (λ x. Precedes Forward x j) (items ++ i ∷ []) i (follows j rest) (Contains-push items i) in
            absurd (omega (arith, ints, past, before))
      ],
)

-- how a listing up to a bound ended
abbrev pub Stops : Rest → Option ℤ → ℕ → List ℤ → Option CronError → ListingEnd → Type 0
Stops rest until most items fault endings.Full = length items ≡ most
Stops rest until most items fault (endings.Past i) =
    rest.left i × (ComesBy Forward until i → ⊥) × ((j : ℤ) → rest.left j → j <ℤ i → Contains items j)
Stops rest until most items fault endings.Over = GaveYears rest items
Stops rest until most items fault endings.Refused = StartsWell rest → fault ≡ Some OutOfMemory

-- what is known of it
pub record IsSearched (rest : Rest) (until : Option ℤ) (most : ℕ) (items : List ℤ) (fault : Option CronError) (ending : ListingEnd) : Type 0 where
  pub counts : All rest.left items
  pub by : All (ComesBy Forward until) items
  pub within : length items ≤ most
  pub stops : Stops rest until most items fault ending

-- the earlier of two seconds comes by both
by_last : (until last : ℤ) (b : Bool) → int_lt last until ≡ b → (i : ℤ) → i ≤ℤ (if b then last else until) → i ≤ℤ last
by_last until last true test i by = by
by_last until last false test i by = grind (arith, ints)

by_until : (until last : ℤ) (b : Bool) → int_lt last until ≡ b → (i : ℤ) → i ≤ℤ (if b then last else until) → i ≤ℤ until
by_until until last true test i by = grind (arith, ints)
by_until until last false test i by = by

abbrev pub or_else : CronError → Option CronError → CronError
or_else d None = d
or_else d (Some e) = e

-- of a start, and what lies after it
module _ (rest : Rest) (start : ℤ) (follows : (i : ℤ) → rest.left i → start <ℤ i) where
  none_by : (items : List ℤ) → All rest.left items → All (ComesBy Forward (Some start)) items → length items ≡ 0
  none_by [] counts by = refl
  none_by (x ∷ xs) counts by =
      let after : start <ℤ x = follows x (counts 0 x (omega arith)) in
      let no_later : x ≤ℤ start = by 0 x (omega arith) in
      absurd (omega (arith, ints, after, no_later))

  -- what comes by the bound lies in the window, and by the second that was asked
  counted_in : (last : Option ℤ) (b : Bool) (i : ℤ) → rest.left i → ComesBy Forward (if b then Some start else last) i → IsInWindow last i
  counted_in last true i left by = let after : start <ℤ i = follows i left in let no_later : i ≤ℤ start = by in absurd (omega (arith, ints, after, no_later))
  counted_in None false i left by = tt
  counted_in (Some last) false i left by = by

  in_window : (last : Option ℤ) (listing : Listing) (i : ℤ) → rest.left i → ComesBy Forward (bound start last listing) i → IsInWindow last i
  in_window last (listings.Count count) i left by = counted_in last (count == 0) i left by
  in_window None (listings.Until until) i left by = tt
  in_window (Some last) (listings.Until until) i left by = by_last until last (int_lt last until) refl i by

  asked_until : (last : Option ℤ) (until i : ℤ) → ComesBy Forward (Some (earlier_of until last)) i → i ≤ℤ until
  asked_until None until i by = by
  asked_until (Some last) until i by = by_until until last (int_lt last until) refl i by

  asked_count : (last : Option ℤ) (count : ℕ) (items : List ℤ) (b : Bool) → (count == 0) ≡ b → All rest.left items
      → All (ComesBy Forward (if b then Some start else last)) items → length items ≤ (if b then 1 else count) → length items ≤ count
  asked_count last count items true test counts by within = let none = none_by items counts by in omega (arith, none)
  asked_count last count items false test counts by within = within

  pub all_in_window : (last : Option ℤ) (listing : Listing) (items : List ℤ) → All rest.left items → All (ComesBy Forward (bound start last listing)) items
      → All (IsInWindow last) items
  all_in_window last listing items counts by = λ k d inside. in_window last listing _ (counts k d inside) (by k d inside)

  pub is_asked : (last : Option ℤ) (listing : Listing) (items : List ℤ) → All rest.left items → All (ComesBy Forward (bound start last listing)) items
      → length items ≤ limit listing → IsAsked listing items
  is_asked last (listings.Count count) items counts by within = asked_count last count items (count == 0) refl counts by within
  is_asked last (listings.Until until) items counts by within = ((λ k d inside. asked_until last until _ (by k d inside)), within)

  -- as many as are searched
  full_count : (last : Option ℤ) (count : ℕ) (items : List ℤ) (b : Bool) → (count == 0) ≡ b → All rest.left items
      → All (ComesBy Forward (if b then Some start else last)) items → length items ≡ (if b then 1 else count)
      → (length items ≡ count) × (count ≡ 0 → LeavesOne rest.left last)
  full_count last count items true test counts by each = let none = none_by items counts by in absurd (omega (arith, none, each))
  full_count last count items false test counts by each = (each, λ zero. absurd (grind (arith, nat_tests)))

  full_is : (last : Option ℤ) (listing : Listing) (items : List ℤ) → All rest.left items → All (ComesBy Forward (bound start last listing)) items
      → length items ≡ limit listing → IsEnd rest last listing items (full_end listing)
  full_is last (listings.Count count) items counts by each = full_count last count items (count == 0) refl counts by each
  full_is last (listings.Until until) items counts by each = each

  -- a run past the bound: in the window, or after it
  module _ (items : List ℤ) (counts : All rest.left items) (i : ℤ) (left : rest.left i) (complete : (j : ℤ) → rest.left j → j <ℤ i → Contains items j) where
    gave_until : (until : ℤ) → until <ℤ i → GaveUntil rest.left until items
    gave_until until past = λ j is le. complete j is (omega (arith, ints, le, past))

    more_until : (last : Option ℤ) (until : ℤ) → IsInWindow last i → until <ℤ i → IsMore rest.left last (listings.Until until) items
    more_until last until within past = (gave_until until past, (i, left, within, past))

    by_window : (last : ℤ) (until : ℤ) (b : Bool) → int_lt last until ≡ b → (i ≤ℤ (if b then last else until) → ⊥) → i ≤ℤ last → until <ℤ i
    by_window last until true test past within = absurd (past within)
    by_window last until false test past within = after_of i until past

    more_count : (last : Option ℤ) (count : ℕ) (b : Bool) → (count == 0) ≡ b → All (ComesBy Forward (if b then Some start else last)) items
        → (ComesBy Forward (if b then Some start else last) i → ⊥) → ((ComesBy Forward last i → ⊥) → ⊥) → IsInWindow last i
        → IsMore rest.left last (listings.Count count) items
    more_count last count true test by past inside within =
        let none = none_by items counts by in
        let zero : count ≡ 0 = grind (arith, nat_tests) in
        (omega (arith, none, zero), λ is. (i, left, within))
    more_count last count false test by past inside within = absurd (inside past)

    past_in : (last : ℤ) (listing : Listing) (b : Bool) → int_lt last i ≡ b → All (ComesBy Forward (bound start (Some last) listing)) items
        → (ComesBy Forward (bound start (Some last) listing) i → ⊥) → IsEnd rest (Some last) listing items (if b then ends.Window else ends.More)
    past_in last listing true test by past = let after_last : last <ℤ i = grind (arith, ints) in inl (gave_until last after_last)
    past_in last (listings.Count count) false test by past =
        let within : i ≤ℤ last = grind (arith, ints) in
        more_count (Some last) count (count == 0) refl by past (λ isnt. isnt within) within
    past_in last (listings.Until until) false test by past =
        let within : i ≤ℤ last = grind (arith, ints) in
        more_until (Some last) until within (by_window last until (int_lt last until) refl past within)

    past_is : (last : Option ℤ) (listing : Listing) → All (ComesBy Forward (bound start last listing)) items
        → (ComesBy Forward (bound start last listing) i → ⊥) → IsEnd rest last listing items (end_before i last)
    past_is None (listings.Count count) by past = more_count None count (count == 0) refl by past (λ isnt. isnt tt) tt
    past_is None (listings.Until until) by past = more_until None until tt (after_of i until past)
    past_is (Some last) listing by past = past_in last listing (int_lt last i) refl by past

  years_are : (last : Option ℤ) (listing : Listing) (items : List ℤ) → GaveYears rest items → IsEnd rest last listing items (end_of_years last)
  years_are None listing items gave = gave
  years_are (Some last) listing items gave = inr gave

  pub end_is : (last : Option ℤ) (listing : Listing) (items : List ℤ) (fault : Option CronError) (ending : ListingEnd) (end : End)
      → IsSearched rest (bound start last listing) (limit listing) items fault ending → EndsBy listing last ending fault end
      → IsEnd rest last listing items end
  end_is last listing items fault endings.Full end s is =
      subst (λ (e : End). IsEnd rest last listing items e) (sym is) (full_is last listing items s.counts s.by s.stops)
  end_is last listing items fault (endings.Past i) end s is =
      subst (λ (e : End). IsEnd rest last listing items e) (sym is) (past_is items s.counts i s.stops.0 s.stops.2 last listing s.by s.stops.1)
  end_is last listing items fault endings.Over end s is =
      subst (λ (e : End). IsEnd rest last listing items e) (sym is) (years_are last listing items s.stops)
  end_is last listing items None endings.Refused end s is = absurd is
  end_is last listing items (Some fault) endings.Refused end s is =
      subst (λ (e : End). IsEnd rest last listing items e) (sym is.1.1) (λ well. is.0 (ap (or_else fault) (s.stops well)))

-- ---- runs that are times or starts

-- what holds of what each is made into
pub all_of_map : {X Y : Type 0} (P : X → Type 0) (f : Y → X) (ys : List Y) → All P (map f ys) → All (λ y. P (f y)) ys
all_of_map P f ys all = λ k d inside. subst P (get_or-map f ys k d (f d) inside) (all k (f d) (omega (arith, length-map ys f, inside)))

pub once_seconds : (times : List TableTime) → seconds_of (map once times) ≡ instants table_moment times
once_seconds [] = refl
once_seconds (t ∷ times) = ap (λ (is : List ℤ). t.second ∷ is) (once_seconds times)

-- the seconds of starts
abbrev pub start_seconds : List Start → List ℤ
start_seconds starts = map (λ s. s.second) starts

pub run_seconds : (runs : List Run) → map (λ v. v.start.second) (map run_seen runs) ≡ seconds_of runs
run_seconds [] = refl
run_seconds (run ∷ runs) = ap (λ (is : List ℤ). run.time.second ∷ is) (run_seconds runs)

pub on_seconds : (table : ClockTable) (starts : List Start) → map (λ v. v.start.second) (map (seen_on table) starts) ≡ start_seconds starts
on_seconds table [] = refl
on_seconds table (s ∷ starts) = ap (λ (is : List ℤ). s.second ∷ is) (on_seconds table starts)

-- ---- of one pattern

module _ (m : Meaning) (start : TableTime) where
  left_after : (i : ℤ) → IsLeft (starts m start) i → start.second <ℤ i
  left_after i left = counts_after (job_at (starts m start)) start.second i left

  stops_is : (new : Standing) (until : Option ℤ) (most : ℕ) (items : List TableTime) (fault : Option CronError) (ending : ListingEnd)
      → ListsUntil (starts m start) new until most items ending → Stops (runs_after m start) until most (instants table_moment items) fault ending
  stops_is new until most items fault endings.Full l = l.ended
  stops_is new until most items fault (endings.Past i) l =
      let next = next_past (IsLeft (starts m start)) (IsLeft new) (instants table_moment items) i l.rest.counts l.rest.either l.rest.later in
      (next.0, l.ended, next.1)
  stops_is new until most items fault endings.Over l = l.ended.0
  stops_is new until most items fault endings.Refused l = λ well. absurd (l.ended.0 (searchable start well))

  is_listed : (new : Standing) (last : Option ℤ) (listing : Listing) (times : List TableTime) (r : Runs) (fault : Option CronError) (ending : ListingEnd)
      → r.items.items ≡ map once times → ListsUntil (starts m start) new (bound start.second last listing) (limit listing) times ending
      → EndsBy listing last ending fault r.end → IsListed (runs_listed m start) last listing r
  is_listed new last listing times r fault ending made l is =
      let rest = runs_after m start in
      let items = instants table_moment times in
      let same : items ≡ seconds_of r.items.items = sym (ap seconds_of made ∙ once_seconds times) in
      let within : length items ≤ limit listing = omega (arith, length-map times (λ (t : TableTime). (table_moment t).instant), l.most) in
      record {
        begins = subst (λ (is : List ℤ). BeginsWhere Forward rest.left is) same l.begins;
        times = subst (λ (runs : List Run). All (λ run. run.count ≡ 1) runs) (sym made) (All-map (λ (run : Run). run.count ≡ 1) once times (λ k d inside. refl));
        made_up = subst (λ (runs : List Run). All (λ run. run.made_up ≡ None) runs) (sym made) (All-map (λ (run : Run). run.made_up ≡ None) once times (λ k d inside. refl));
        asked = subst (λ (is : List ℤ). IsAsked listing is) same (is_asked rest start.second left_after last listing items l.begins.counts l.by within);
        on_clock = subst (λ (runs : List Run). All (λ run. IsWholeIn (table_moment start).zone (table_moment run.time)) runs) (sym made)
            (All-map (λ (run : Run). IsWholeIn (table_moment start).zone (table_moment run.time)) once times l.whole);
        in_window = subst (λ (is : List ℤ). All (IsInWindow last) is) same (all_in_window rest start.second left_after last listing items l.begins.counts l.by);
        end = subst (λ (is : List ℤ). IsEnd rest last listing is r.end) same
            (end_is rest start.second left_after last listing items fault ending r.end (record {
              counts = l.begins.counts;
              by = l.by;
              within = within;
              stops = stops_is new (bound start.second last listing) (limit listing) times fault ending l;
            }) is);
      }

-- of an iterator that is new at the start, searched up to the bound
pub listed_by : (m : Meaning) (start : TableTime) (at new : Standing) (until : Option ℤ) (most : ℕ) (last : Option ℤ) (listing : Listing) (times : List TableTime)
    (r : Runs) (fault : Option CronError) (ending : ListingEnd) → at ≡ starts m start → until ≡ bound start.second last listing → most ≡ limit listing
    → r.items.items ≡ map once times → ListsUntil at new until most times ending → EndsBy listing last ending fault r.end
    → IsListed (runs_listed m start) last listing r
listed_by m start at new until most last listing times r fault ending begins up_to at_most made l is =
    is_listed m start new last listing times r fault ending made
    (subst (λ (s : Standing). ListsUntil s new (bound start.second last listing) (limit listing) times ending) begins
    (subst (λ (u : Option ℤ). ListsUntil at new u (limit listing) times ending) up_to
    (subst (λ (n : ℕ). ListsUntil at new until n times ending) at_most l))) is

-- ---- of a job of a crontab

-- what a run tells on its own clock, it tells on the clock of another time with the same table
pub made_up_on : (job : CronJob) (table : ClockTable) (run : Run) → run.time.table.now ≡ table → TellsMadeUp job run
    → MakesUp job (table_zone table) run.time.second run.made_up
made_up_on job table run same told = subst (λ (t : ClockTable). MakesUp job (table_zone t) run.time.second run.made_up) same told

-- how a listing of starts ended, in the words of one of runs
abbrev pub ending_of : StartsEnd → ListingEnd
ending_of starts_ends.Full = endings.Full
ending_of (starts_ends.Past next) = endings.Past next.second
ending_of starts_ends.Over = endings.Over

ends_by : (listing : Listing) (last : Option ℤ) (ending : StartsEnd) (end : End) → end ≡ end_of_starts listing last ending → EndsBy listing last (ending_of ending) None end
ends_by listing last starts_ends.Full end is = is
ends_by listing last (starts_ends.Past next) end is = is
ends_by listing last starts_ends.Over end is = is

module _ (job : CronJob) (start : TableTime) where
  abbrev left : ℤ → Type 0
  left = (starts_after job start).left

  start_left : (starts : List ℤ) (i : ℤ) → BeginsWhere Forward left (starts ++ i ∷ []) → left i × ((j : ℤ) → left j → j <ℤ i → Contains starts j)
  start_left starts i begins = (
    All-contains left (starts ++ i ∷ []) i begins.counts (Contains-push starts i),
    λ j is before.
        elim (Contains-push_cases starts i j (begins.complete j i is (Contains-push starts i) (omega (arith, ints, before)))) [
          | inl earlier ↦ earlier
          | inr same ↦ absurd (omega (arith, ints, same, before))
        ],
  )

  starts_stop : (until : Option ℤ) (most : ℕ) (starts : List Start) (ending : StartsEnd) → ListsStarts job (table_moment start) until most starts ending
      → Stops (starts_after job start) until most (start_seconds starts) None (ending_of ending)
  starts_stop until most starts starts_ends.Full l = length-map starts (λ (s : Start). s.second) ∙ l.ended
  starts_stop until most starts (starts_ends.Past next) l =
      let is = start_left (start_seconds starts) next.second l.ended.2 in
      (is.0, l.ended.1, is.1)
  starts_stop until most starts starts_ends.Over l = l.ended

  -- a start on the clock, as it is seen of a run
  abbrev IsStartHere : Seen → Type 0
  IsStartHere v = IsStartOf job (table_moment start).zone v.start × (v.table ≡ start.table.now)

  starts_listed_is : (last : Option ℤ) (listing : Listing) (starts : List Start) (r : Runs) (ending : StartsEnd)
      → map run_seen r.items.items ≡ map (seen_on start.table.now) starts → All (TellsMadeUp job) r.items.items
      → ListsStarts job (table_moment start) (bound start.second last listing) (limit listing) starts ending
      → r.end ≡ end_of_starts listing last ending → IsListed (starts_listed job start) last listing r
  starts_listed_is last listing starts r ending made made_up l is =
      let rest = starts_after job start in
      let items = start_seconds starts in
      let same : items ≡ seconds_of r.items.items =
      sym (sym (run_seconds r.items.items) ∙ ap (map (λ (v : Seen). v.start.second)) made ∙ on_seconds start.table.now starts) in
      let within : length items ≤ limit listing = omega (arith, length-map starts (λ (s : Start). s.second), l.most) in
      let by : All (ComesBy Forward (bound start.second last listing)) items =
      All-map (ComesBy Forward (bound start.second last listing)) (λ (s : Start). s.second) starts l.by in
      let follows : (i : ℤ) → rest.left i → start.second <ℤ i = λ i is_left. is_left.0 in
      let here : All IsStartHere (map run_seen r.items.items) =
      subst (λ (vs : List Seen). All IsStartHere vs) (sym made) (All-map IsStartHere (seen_on start.table.now) starts (λ k d inside. (l.each k d inside, refl))) in
      let each : All (λ (run : Run). IsStartHere (run_seen run)) r.items.items = all_of_map IsStartHere run_seen r.items.items here in
      let told_here : All (λ (run : Run). MakesUp job (table_moment start).zone run.time.second run.made_up) r.items.items =
      λ k d inside. made_up_on job start.table.now (get_or r.items.items k d) (each k d inside).1 (made_up k d inside) in
      record {
        begins = subst (λ (is : List ℤ). BeginsWhere Forward rest.left is) same l.begins;
        times = λ k d inside. (each k d inside).0;
        made_up = λ k d inside. told_here k d inside;
        asked = subst (λ (is : List ℤ). IsAsked listing is) same (is_asked rest start.second follows last listing items l.begins.counts by within);
        on_clock = λ k d inside. record { zone = ap table_zone (each k d inside).1; whole = refl };
        in_window = subst (λ (is : List ℤ). All (IsInWindow last) is) same (all_in_window rest start.second follows last listing items l.begins.counts by);
        end = subst (λ (is : List ℤ). IsEnd rest last listing is r.end) same
            (end_is rest start.second follows last listing items None (ending_of ending) r.end (record {
              counts = l.begins.counts;
              by = by;
              within = within;
              stops = starts_stop (bound start.second last listing) (limit listing) starts ending l;
            }) (ends_by listing last ending r.end is));
      }

-- searched up to the bound
pub starts_listed_by : (job : CronJob) (start : TableTime) (until : Option ℤ) (most : ℕ) (last : Option ℤ) (listing : Listing) (starts : List Start) (r : Runs)
    (ending : StartsEnd) → until ≡ bound start.second last listing → most ≡ limit listing → map run_seen r.items.items ≡ map (seen_on start.table.now) starts
    → All (TellsMadeUp job) r.items.items → ListsStarts job (table_moment start) until most starts ending → r.end ≡ end_of_starts listing last ending → IsListed (starts_listed job start) last listing r
starts_listed_by job start until most last listing starts r ending up_to at_most made made_up l is =
    starts_listed_is job start last listing starts r ending made made_up
    (subst (λ (u : Option ℤ). ListsStarts job (table_moment start) u (limit listing) starts ending) up_to
    (subst (λ (n : ℕ). ListsStarts job (table_moment start) until n starts ending) at_most l)) is

-- each start is held by its clock's table
pub starts_held : (m : Meaning) (is_starred : Bool) (t : TableTime) (starts : List Start) → All (IsStartOf (cron_job m is_starred) (table_moment t).zone) starts
    → All (λ s. is_table_second s.second ≡ true) starts
starts_held m is_starred t starts each = λ k d inside.
    let s = get_or starts k d in
    let is = each k d inside in
    start_held m is_starred t.table.now s.second (s.count, is.some, is.times)
