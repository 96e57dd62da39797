-- The nearest of the answers of a table's patterns, place by place, and what they come to.
use Rattle.std.proofs.Common.{◌≡◌, ◌⊎◌, inl, inr, ℕ, ◌+◌, ◌<◌, ℤ, arith, refl, sym, subst, ◌∙◌, Bool, true, List, [], ◌∷◌, ◌++◌, length, get_or, Option, Some, None, Result, Ok, Err}
use Rattle.std.proofs.lemmas.Bool.{cases_lt}
use Rattle.std.proofs.lemmas.Int.{ints}
use Rattle.std.proofs.lemmas.List.{length_push}
use Rattle.std.proofs.lemmas.List.Elements.{All-nil, All-push, Contains-push, Contains-append_left}
use Rattle.std.proofs.lemmas.List.Quantifiers.{all_pairs_push}
use Rattle.std.proofs.lemmas.Option.{slice_get_within, get_or_from_slice_get}
use Rattle.std.specs.Prelude.{slice_get, IfOk, IfErr}
use Rattle.std.specs.List.{All, AllPairs, Contains}
use Rattle.std.specs.declared.cmp.Ordering.{Ordering}
use Rattle.std.specs.declared.cmp.Ordering.TheVariants.{Less, Equal, Greater}
use Rattle.croner_base.specs.declared.errors.CronError.{CronError}
use Rattle.croner_base.specs.declared.errors.CronError.TheVariants.{TimeSearchLimitExceeded, OutOfMemory}
use Rattle.croner_base.specs.declared.time.Direction.{Direction}
use Rattle.croner_base.specs.Calm.{IsCalm}
use Rattle.croner_base.specs.Zone.{Zone, Moment, reading, nanos_of}
use Rattle.croner_pattern.specs.Meaning.{Meaning}
use Rattle.croner.specs.search.Limit.{InSpan, NoneInSpanWhere, IsPast}
use Rattle.croner.specs.search.PatternJob.{pattern_job, timetable_of}
use Rattle.croner.specs.Private.search.Held.{IsBackendError}
use Rattle.croner.specs.search.Premises.{IsSearchable, StartsCalm}
use Rattle.croner.specs.search.Refusal.{IsRefusal, IsLimitOrMemory}
use Rattle.croner.specs.search.Runs.{Precedes, Reaches, Counts}
use Rattle.croner.specs.search.Searches.{IsFound, IsRefused}
use Rattle.croner.specs.crontable.Tables.{CountsAt, TableCounts, ShowsAt, AllPast, IsTableFound, IsTableRefused}
use Rattle.croner.specs.Private.crontable.Met.{MetAnswers, new_met, IsOrdered, Meets, TakesIn}
use Rattle.croner.specs.Private.crontable.Room.{IsRefusedInRoom}
use Rattle.croner.proofs.zone.Ahead.{reaches-trans, precedes-reaches, not_both, either}
use Rattle.croner.proofs.iterator.Listings.{is_run}
use Rattle.croner.proofs.iterator.ThereAndBack.{searchable_run}
use Rattle.croner.proofs.zone.HalfEdges.{along-nanos}

none_is_some : {A : Type 0} (x : A) → None ≡ Some x → ⊥
none_is_some x e = absurd (cc)

same_some : {A : Type 0} (x y : A) → Some x ≡ Some y → x ≡ y
same_some x y e = cc

ok_is_err : {X : Type 0} (r : Result X CronError) (x : X) (e : CronError) → r ≡ Ok x → r ≡ Err e → ⊥
ok_is_err r x e good bad = absurd (cc)

same_err : {X : Type 0} (r : Result X CronError) (e f : CronError) → r ≡ Err e → r ≡ Err f → e ≡ f
same_err r e f one other = cc

-- the limit, or an error of a backend that can lack memory, where memory can be wanting in any case
or_memory : (lack : Bool) (e : CronError) → IsLimitOrMemory lack e → IsLimitOrMemory true e
or_memory lack e why = elim why [ inl limit ↦ inl limit | inr (memory, can) ↦ inr (memory, refl) ]

with_memory : (lack : Bool) (e : CronError) → IsRefusal lack e → IsRefusal true e
with_memory lack e kind = elim kind [ inl why ↦ inl (or_memory lack e why) | inr other ↦ inr other ]

backend_no_limit : (lack : Bool) (unheld : Type 0) (e : CronError) → IsBackendError lack unheld e → e ≡ TimeSearchLimitExceeded → ⊥
backend_no_limit lack unheld e error is =
    elim error [ inl (memory, can) ↦ absurd (cc) | inr (inl date, stuck) ↦ absurd (cc) | inr (inr time, stuck) ↦ absurd (cc) ]

-- what comes no later than something in the span lies in it
span_before : (direction : Direction) (reads : ℤ → ℤ) (i j : ℤ) → Reaches direction i j → InSpan direction reads j → InSpan direction reads i
span_before direction reads i j le span = λ x h. span x (reaches-trans direction x i j h le)

no_pairs : AllPairs (◌<◌) []
no_pairs i j d lt within = absurd (omega arith)

raised : (n : ℕ) (xs : List ℕ) → All (λ k. k < n) xs → All (λ k. k < n + 1) xs
raised n xs all k d within = let lt : get_or xs k d < n = all k d within in omega arith

last_or_before : (k n : ℕ) → k < n + 1 → (k < n) ⊎ (k ≡ n)
last_or_before k n lt = elim (cases_lt k n) [ inl below ↦ inl below | inr above ↦ inr (omega arith) ]

one_nanos : (a b : Moment) → a.fraction ≡ 0 → b.fraction ≡ 0 → nanos_of a ≡ nanos_of b → a.instant ≡ b.instant
one_nanos a b f g e = omega (arith, ints)

pub order_nanos : (direction : Direction) (a b : Moment) → a.fraction ≡ 0 → b.fraction ≡ 0 → Precedes direction (nanos_of a) (nanos_of b) → Precedes direction a.instant b.instant
order_nanos direction a b f g lt = omega (arith, ints, along-nanos direction a f, along-nanos direction b g)

-- the limit, with what it says
table_limit : (lack : Bool) (direction : Direction) (inclusive : Bool) (patterns : List Meaning) (start : Moment) → (StartsCalm start → NoneInSpanWhere direction start.zone.reads (TableCounts direction inclusive patterns start.zone start.instant))
    → IsRefusedInRoom lack direction inclusive patterns start TimeSearchLimitExceeded
table_limit lack direction inclusive patterns start none = record { limit = λ calm e. none calm; promised = λ p. inl refl; kind = inl (inl refl); past = λ p. refl }

-- what refuses a search in room refuses the search
pub refused_in_room : (lack : Bool) (direction : Direction) (inclusive : Bool) (patterns : List Meaning) (start : Moment) (e : CronError) → IsRefusedInRoom lack direction inclusive patterns start e
    → IsTableRefused direction inclusive patterns start e
refused_in_room lack direction inclusive patterns start e why = record {
  limit = why.limit;
  promised = λ p. or_memory lack e (why.promised p);
  kind = with_memory lack e why.kind;
  past = λ past. inl (why.past past);
}

-- there is no memory for the places
pub room_refused : (direction : Direction) (inclusive : Bool) (patterns : List Meaning) (start : Moment) → IsTableRefused direction inclusive patterns start OutOfMemory
room_refused direction inclusive patterns start = record {
  limit = λ calm is. absurd (cc);
  promised = λ p. inr (refl, refl);
  kind = inl (inr (refl, refl));
  past = λ p. inr (refl, refl);
}

-- what refuses the search of one pattern, but for the limit, refuses the search
pub place_refused : (lack : Bool) (direction : Direction) (inclusive : Bool) (patterns : List Meaning) (start : Moment) (k : ℕ) (m : Meaning) (e : CronError) → slice_get patterns k ≡ Some m
    → IsRefused lack direction inclusive (timetable_of m) start e → ¬ (e ≡ TimeSearchLimitExceeded) → IsTableRefused direction inclusive patterns start e
place_refused lack direction inclusive patterns start k m e stands why other = record {
  limit = λ calm is. absurd (other is);
  promised = λ p. or_memory lack e (why.promised p);
  kind = with_memory lack e why.kind;
  past = λ past.
      let lt : k < length patterns = slice_get_within patterns k m stands in
      let here : get_or patterns k m ≡ m = get_or_from_slice_get patterns k m m stands in
      let P : Meaning → Type 0 = λ x. IsPast direction inclusive (timetable_of x).scheduled (reading start) in
      inl (why.past (subst P here (past k m lt)));
}

module _ {T : Type 0} (moment : T → Moment) (direction : Direction) (inclusive : Bool) (patterns : List Meaning) (start : Moment) where
  abbrev pub At : ℕ → ℤ → Type 0
  At k i = CountsAt direction inclusive patterns start.zone start.instant k i

  abbrev pub Span : ℤ → Type 0
  Span i = InSpan direction start.zone.reads i

  -- what a pattern's search says of its place: every run of it that counts comes no earlier than what it found
  place_found : (k : ℕ) (m : Meaning) (t : Moment) → slice_get patterns k ≡ Some m → StartsCalm start → IsFound direction inclusive (timetable_of m) start t
      → (j : ℤ) → At k j → Reaches direction t.instant j
  place_found k m t stands calm found j counts =
      let same : counts.pattern ≡ m = same_some counts.pattern m (sym counts.stands ∙ stands) in
      let P : Meaning → Type 0 = λ x. Counts direction inclusive (pattern_job x start.zone) start.instant j in
      (found.nearest calm).nearest j (subst P same counts.counts)

  place_counts : (k : ℕ) (m : Meaning) (t : Moment) → slice_get patterns k ≡ Some m → StartsCalm start → IsFound direction inclusive (timetable_of m) start t → At k t.instant
  place_counts k m t stands calm found = record { pattern = m; stands = stands; counts = (found.nearest calm).counts }

  -- or no run of it that counts lies in the span
  place_limited : (k : ℕ) (m : Meaning) (lack : Bool) → slice_get patterns k ≡ Some m → StartsCalm start → IsRefused lack direction inclusive (timetable_of m) start TimeSearchLimitExceeded
      → (j : ℤ) → At k j → Span j → ⊥
  place_limited k m lack stands calm refused j counts span =
      let same : counts.pattern ≡ m = same_some counts.pattern m (sym counts.stands ∙ stands) in
      let P : Meaning → Type 0 = λ x. Counts direction inclusive (pattern_job x start.zone) start.instant j in
      refused.limit calm refl j span (subst P same counts.counts)

  place_shows : (k : ℕ) (m : Meaning) (t : Moment) → slice_get patterns k ≡ Some m → IsFound direction inclusive (timetable_of m) start t → ShowsAt patterns start.zone t.instant k
  place_shows k m t stands found = record { pattern = m; stands = stands; shows = found.shows }

  -- what holds of the nearest run so far and its places, in every zone
  pub record IsBest (t : Moment) (places : List ℕ) : Type 0 where
    pub zone : t.zone ≡ start.zone
    pub whole : t.fraction ≡ 0
    pub some : 0 < length places
    pub shows : All (ShowsAt patterns start.zone t.instant) places
    pub left : ¬ (AllPast direction inclusive patterns start)

  -- what holds of the first places after their searches, in a calm zone
  pub record Looked (n : ℕ) (met : MetAnswers T) : Type 0 where
    pub reached : (k : ℕ) (j : ℤ) → k < n → At k j → ((t : T) × (met.nearest ≡ Some t) × Reaches direction (moment t).instant j) ⊎ ((met.is_limited ≡ true) × ¬ (Span j))
    pub complete : (k : ℕ) (t : T) → k < n → met.nearest ≡ Some t → At k (moment t).instant → Contains met.places k ⊎ ((met.is_limited ≡ true) × ¬ (Span (moment t).instant))
    pub counts : (t : T) → met.nearest ≡ Some t → All (λ k. At k (moment t).instant) met.places

  -- and in every zone
  pub record Searched (n : ℕ) (met : MetAnswers T) : Type 0 where
    pub ordered : AllPairs (◌<◌) met.places
    pub below : All (λ k. k < n) met.places
    pub best : (t : T) → met.nearest ≡ Some t → IsBest (moment t) met.places
    pub looked : StartsCalm start → Looked n met

  pub searched_none : Searched 0 new_met
  searched_none = record {
    ordered = no_pairs;
    below = All-nil (λ k. k < 0);
    best = λ t e. absurd (none_is_some t e);
    looked = λ calm. record {
      reached = λ k j lt. absurd (omega arith);
      complete = λ k t lt. absurd (omega arith);
      counts = λ t e. absurd (none_is_some t e);
    };
  }

  -- ---- one place more

  module _ (n : ℕ) (old : MetAnswers T) (s : Searched n old) (m : Meaning) (stands : slice_get patterns n ≡ Some m) where
    -- the limit is remembered
    limited : (lack : Bool) → IsRefused lack direction inclusive (timetable_of m) start TimeSearchLimitExceeded → Searched (n + 1) (record old { is_limited = true })
    limited lack refused = record {
      ordered = s.ordered;
      below = raised n old.places s.below;
      best = s.best;
      looked = λ calm. record {
        reached = λ k j lt at.
            elim (last_or_before k n lt) [
              | inl before ↦ elim ((s.looked calm).reached k j before at) [ inl found ↦ inl found | inr (is, out) ↦ inr (refl, out) ]
              | inr last ↦ inr (refl, place_limited n m lack stands calm refused j (subst (λ (x : ℕ). At x j) last at))
            ];
        complete = λ k t lt e at.
            elim (last_or_before k n lt) [
              | inl before ↦ elim ((s.looked calm).complete k t before e at) [ inl has ↦ inl has | inr (is, out) ↦ inr (refl, out) ]
              | inr last ↦ inr (refl, place_limited n m lack stands calm refused (moment t).instant (subst (λ (x : ℕ). At x (moment t).instant) last at))
            ];
        counts = (s.looked calm).counts;
      };
    }

    module _ (found : T) (is : IsFound direction inclusive (timetable_of m) start (moment found)) (left : ¬ (AllPast direction inclusive patterns start)) where
      -- a run before all others takes their place
      nearer : ((t : T) → old.nearest ≡ Some t → Precedes direction (nanos_of (moment found)) (nanos_of (moment t))) → Searched (n + 1) (record old { nearest = Some found; places = n ∷ [] })
      nearer before = record {
        ordered = all_pairs_push (◌<◌) [] n no_pairs (λ k d within. absurd (omega arith));
        below = All-push (λ k. k < n + 1) [] n (All-nil (λ k. k < n + 1)) (omega arith);
        best = λ t e.
            let P : T → Type 0 = λ x. IsBest (moment x) (n ∷ []) in
            subst P (same_some found t e) (record {
              zone = is.zone;
              whole = is.whole;
              some = let one : length (n ∷ []) ≡ 1 = refl in omega arith;
              shows = All-push (ShowsAt patterns start.zone (moment found).instant) [] n (All-nil (ShowsAt patterns start.zone (moment found).instant)) (place_shows n m (moment found) stands is);
              left = left;
            });
        looked = λ calm.
            let earlier : (t : T) → old.nearest ≡ Some t → Precedes direction (moment found).instant (moment t).instant =
            λ t e. order_nanos direction (moment found) (moment t) is.whole (s.best t e).whole (before t e) in
            record {
              reached = λ k j lt at.
                  elim (last_or_before k n lt) [
                    | inr last ↦ inl (found, refl, place_found n m (moment found) stands calm is j (subst (λ (x : ℕ). At x j) last at))
                    | inl first ↦
                        elim ((s.looked calm).reached k j first at) [
                          | inl (t, e, reach) ↦ inl (found, refl, reaches-trans direction (moment found).instant (moment t).instant j (precedes-reaches direction (moment found).instant (moment t).instant (earlier t e)) reach)
                          | inr out ↦ inr out
                        ]
                  ];
              complete = λ k t lt e at.
                  elim (last_or_before k n lt) [
                    | inr last ↦ inl (subst (Contains (n ∷ [])) (sym last) (Contains-push [] n))
                    | inl first ↦
                        let same : t ≡ found = sym (same_some found t e) in
                        let P : T → Type 0 = λ x. At k (moment x).instant in
                        let Q : T → Type 0 = λ x. ¬ (Span (moment x).instant) in
                        elim ((s.looked calm).reached k (moment found).instant first (subst P same at)) [
                          | inl (b, e2, reach) ↦ absurd (not_both direction (moment found).instant (moment b).instant (earlier b e2) reach)
                          | inr (lim, out) ↦ inr (lim, subst Q (sym same) out)
                        ]
                  ];
              counts = λ t e.
                  let P : T → Type 0 = λ x. All (λ k. At k (moment x).instant) (n ∷ []) in
                  subst P (same_some found t e) (All-push (λ k. At k (moment found).instant) [] n (All-nil (λ k. At k (moment found).instant)) (place_counts n m (moment found) stands calm is));
            };
      }

      -- at the same instant its place is appended
      equal : (near : T) → old.nearest ≡ Some near → nanos_of (moment found) ≡ nanos_of (moment near) → Searched (n + 1) (record old { places = old.places ++ n ∷ [] })
      equal near at same_nanos =
          let best = s.best near at in
          let same : (moment found).instant ≡ (moment near).instant = one_nanos (moment found) (moment near) is.whole best.whole same_nanos in
          let the : (t : T) → old.nearest ≡ Some t → near ≡ t = λ t e. same_some near t (sym at ∙ e) in
          record {
            ordered = all_pairs_push (◌<◌) old.places n s.ordered (λ k d within. s.below k d within);
            below = All-push (λ k. k < n + 1) old.places n (raised n old.places s.below) (omega arith);
            best = λ t e.
                let P : T → Type 0 = λ x. IsBest (moment x) (old.places ++ n ∷ []) in
                let longer : length (old.places ++ n ∷ []) ≡ length old.places + 1 = length_push old.places n in
                subst P (the t e) (record {
                  zone = best.zone;
                  whole = best.whole;
                  some = omega arith;
                  shows = All-push (ShowsAt patterns start.zone (moment near).instant) old.places n best.shows
                      (let Q : ℤ → Type 0 = λ i. ShowsAt patterns start.zone i n in subst Q same (place_shows n m (moment found) stands is));
                  left = left;
                });
            looked = λ calm. record {
              reached = λ k j lt counts.
                  elim (last_or_before k n lt) [
                    | inr last ↦
                        inl (near, at, let Q : ℤ → Type 0 = λ i. Reaches direction i j in subst Q same (place_found n m (moment found) stands calm is j (subst (λ (x : ℕ). At x j) last counts)))
                    | inl first ↦ (s.looked calm).reached k j first counts
                  ];
              complete = λ k t lt e counts.
                  elim (last_or_before k n lt) [
                    | inr last ↦ inl (subst (Contains (old.places ++ n ∷ [])) (sym last) (Contains-push old.places n))
                    | inl first ↦
                        elim ((s.looked calm).complete k t first e counts) [
                          | inl has ↦ inl (Contains-append_left old.places (n ∷ []) k has)
                          | inr out ↦ inr out
                        ]
                  ];
              counts = λ t e.
                  let P : T → Type 0 = λ x. All (λ k. At k (moment x).instant) (old.places ++ n ∷ []) in
                  let Q : ℤ → Type 0 = λ i. At n i in
                  subst P (the t e) (All-push (λ k. At k (moment near).instant) old.places n ((s.looked calm).counts near at) (subst Q same (place_counts n m (moment found) stands calm is)));
            };
          }

      -- after it nothing changes
      later : (near : T) → old.nearest ≡ Some near → Precedes direction (nanos_of (moment near)) (nanos_of (moment found)) → Searched (n + 1) old
      later near at before_nanos =
          let best = s.best near at in
          let before : Precedes direction (moment near).instant (moment found).instant = order_nanos direction (moment near) (moment found) best.whole is.whole before_nanos in
          let the : (t : T) → old.nearest ≡ Some t → near ≡ t = λ t e. same_some near t (sym at ∙ e) in
          record {
            ordered = s.ordered;
            below = raised n old.places s.below;
            best = s.best;
            looked = λ calm. record {
              reached = λ k j lt counts.
                  elim (last_or_before k n lt) [
                    | inr last ↦
                        let reach = place_found n m (moment found) stands calm is j (subst (λ (x : ℕ). At x j) last counts) in
                        inl (near, at, reaches-trans direction (moment near).instant (moment found).instant j (precedes-reaches direction (moment near).instant (moment found).instant before) reach)
                    | inl first ↦ (s.looked calm).reached k j first counts
                  ];
              complete = λ k t lt e counts.
                  elim (last_or_before k n lt) [
                    | inr last ↦
                        let P : T → Type 0 = λ x. At n (moment x).instant in
                        let here : At n (moment near).instant = subst P (sym (the t e)) (subst (λ (x : ℕ). At x (moment t).instant) last counts) in
                        absurd (not_both direction (moment near).instant (moment found).instant before (place_found n m (moment found) stands calm is (moment near).instant here))
                    | inl first ↦ (s.looked calm).complete k t first e counts
                  ];
              counts = (s.looked calm).counts;
            };
          }

      by_order : (nearest : Option T) → old.nearest ≡ nearest → (order : Ordering) → IsOrdered moment direction found nearest order → Searched (n + 1) (Meets n found order old)
      by_order None e Less h = nearer (λ t f. absurd (none_is_some t (sym e ∙ f)))
      by_order None e Equal h = absurd h
      by_order None e Greater h = absurd h
      by_order (Some near) e Less h =
          let P : T → Type 0 = λ x. Precedes direction (nanos_of (moment found)) (nanos_of (moment x)) in
          nearer (λ t f. subst P (same_some near t (sym e ∙ f)) h)
      by_order (Some near) e Equal h = equal near e h
      by_order (Some near) e Greater h = later near e h

      taken_found : (order : Ordering) → IsOrdered moment direction found old.nearest order → Searched (n + 1) (Meets n found order old)
      taken_found order ordered = by_order old.nearest refl order ordered

    -- from a start past the years of each pattern this one finds nothing
    not_all_past : (found : Moment) → IsFound direction inclusive (timetable_of m) start found → ¬ (AllPast direction inclusive patterns start)
    not_all_past found is past =
        let lt : n < length patterns = slice_get_within patterns n m stands in
        let same : get_or patterns n m ≡ m = get_or_from_slice_get patterns n m m stands in
        let P : Meaning → Type 0 = λ x. IsPast direction inclusive (timetable_of x).scheduled (reading start) in
        is.left (subst P same (past n m lt))

    -- what is met after the search of the place
    pub taken : (lack : Bool) (answer : Result T CronError) (new : MetAnswers T) (result : Result (Unit {0}) CronError)
        → IfOk answer (λ t. IsFound direction inclusive (timetable_of m) start (moment t)) → IfErr answer (IsRefused lack direction inclusive (timetable_of m) start)
        → TakesIn moment direction n answer old new result → (u : Unit {0}) → result ≡ Ok u → Searched (n + 1) new
    taken lack (Ok found) new result is refused (order, ordered, step, ok) u good =
        subst (Searched (n + 1)) (sym step) (taken_found found is (not_all_past (moment found) is) order ordered)
    taken lack (Err e) new result is refused takes u good =
        elim takes [
          | inl (limit, step, ok) ↦
              let P : CronError → Type 0 = IsRefused lack direction inclusive (timetable_of m) start in
              subst (Searched (n + 1)) (sym step) (limited lack (subst P limit refused))
          | inr (other, same) ↦ absurd (ok_is_err result u e good same)
        ]

    -- the error of the place that ends the search of the table
    pub refused_place : (lack : Bool) (answer : Result T CronError) (new : MetAnswers T) (result : Result (Unit {0}) CronError) (e : CronError)
        → IfErr answer (IsRefused lack direction inclusive (timetable_of m) start)
        → TakesIn moment direction n answer old new result → result ≡ Err e → IsRefusedInRoom lack direction inclusive patterns start e
    refused_place lack (Ok found) new result e refused (order, ordered, step, ok) bad = absurd (ok_is_err result tt e ok bad)
    refused_place lack (Err f) new result e refused takes bad =
        elim takes [
          | inl (limit, step, ok) ↦ absurd (ok_is_err result tt e ok bad)
          | inr (other, same) ↦
              let the : f ≡ e = same_err result f e same bad in
              subst (IsRefusedInRoom lack direction inclusive patterns start) the (record {
                limit = λ calm is. absurd (other is);
                promised = refused.promised;
                kind = refused.kind;
                past = λ past.
                    let lt : n < length patterns = slice_get_within patterns n m stands in
                    let here : get_or patterns n m ≡ m = get_or_from_slice_get patterns n m m stands in
                    let P : Meaning → Type 0 = λ x. IsPast direction inclusive (timetable_of x).scheduled (reading start) in
                    refused.past (subst P here (past n m lt));
              })
        ]

  -- ---- what they come to

  module _ (met : MetAnswers T) (s : Searched (length patterns) met) where
    within : (k : ℕ) (j : ℤ) → At k j → k < length patterns
    within k j at = slice_get_within patterns k at.pattern at.stands

    -- no pattern has a run
    pub none_met : (lack : Bool) → met.nearest ≡ None → IsRefusedInRoom lack direction inclusive patterns start TimeSearchLimitExceeded
    none_met lack none = table_limit lack direction inclusive patterns start (λ calm i span (k, at).
        elim ((s.looked calm).reached k i (within k i at) at) [
          | inl (t, e, reach) ↦ none_is_some t (sym none ∙ e)
          | inr (lim, out) ↦ out span
        ])

    module _ (t : T) (at_t : met.nearest ≡ Some t) where
      best : IsBest (moment t) met.places
      best = s.best t at_t

      calm_best : StartsCalm start → StartsCalm (moment t)
      calm_best calm = record { calm = subst IsCalm (sym best.zone) calm.calm; whole = best.whole }

      -- the nearest lies outside the span
      pub outside_met : (lack : Bool) → (StartsCalm (moment t) → ¬ (InSpan direction (moment t).zone.reads (moment t).instant)) → IsRefusedInRoom lack direction inclusive patterns start TimeSearchLimitExceeded
      outside_met lack outside = table_limit lack direction inclusive patterns start (λ calm i span (k, at).
          elim ((s.looked calm).reached k i (within k i at) at) [
            | inl (b, e, reach) ↦
                let P : T → Type 0 = λ x. Reaches direction (moment x).instant i in
                let here = span_before direction start.zone.reads (moment t).instant i (subst P (same_some b t (sym e ∙ at_t)) reach) span in
                let Q : Zone → Type 0 = λ z. InSpan direction z.reads (moment t).instant in
                outside (calm_best calm) (subst Q (sym best.zone) here)
            | inr (lim, out) ↦ out span
          ])

      abbrev first : ℕ
      first = get_or met.places 0 0

      first_counts : StartsCalm start → At first (moment t).instant
      first_counts calm = (s.looked calm).counts t at_t 0 0 best.some

      searchable_best : IsSearchable start → IsSearchable (moment t)
      searchable_best p =
          let at = first_counts p.starts in
          searchable_run at.pattern start (moment t) p best.zone best.whole
          (is_run direction inclusive (pattern_job at.pattern start.zone) start.instant (moment t).instant at.counts)

      -- the span's test is refused
      pub test_refused : (lack : Bool) (e : CronError) → IsBackendError lack (¬ (IsSearchable (moment t))) e → IsRefusedInRoom lack direction inclusive patterns start e
      test_refused lack e error = record {
        limit = λ calm is. absurd (backend_no_limit lack _ e error is);
        promised = λ p. elim error [ inl (memory, can) ↦ inr (memory, can) | inr (kind, stuck) ↦ absurd (stuck (searchable_best p)) ];
        kind = elim error [
          | inl (memory, can) ↦ inl (inr (memory, can))
          | inr (inl date, stuck) ↦ inr (inl date)
          | inr (inr time, stuck) ↦ inr (inr time)
        ];
        past = λ past. absurd (best.left past);
      }

      span_here : (met.is_limited ≡ true → StartsCalm (moment t) → InSpan direction (moment t).zone.reads (moment t).instant) → StartsCalm start → met.is_limited ≡ true → Span (moment t).instant
      span_here inside calm lim =
          let Q : Zone → Type 0 = λ z. InSpan direction z.reads (moment t).instant in
          subst Q best.zone (inside lim (calm_best calm))

      -- else it is the answer
      pub found_met : (met.is_limited ≡ true → StartsCalm (moment t) → InSpan direction (moment t).zone.reads (moment t).instant) → IsTableFound direction inclusive patterns start (moment t) met.places
      found_met inside = record {
        nearest = λ calm. record {
          counts = (first, first_counts calm);
          nearest = λ j (k, at).
              elim ((s.looked calm).reached k j (within k j at) at) [
                | inl (b, e, reach) ↦ let P : T → Type 0 = λ x. Reaches direction (moment x).instant j in subst P (same_some b t (sym e ∙ at_t)) reach
                | inr (lim, out) ↦
                    elim (either direction j (moment t).instant) [
                      | inr reach ↦ reach
                      | inl before ↦ absurd (out (span_before direction start.zone.reads j (moment t).instant (precedes-reaches direction j (moment t).instant before) (span_here inside calm lim)))
                    ]
              ];
        };
        places = λ calm. record {
          ordered = s.ordered;
          count = (s.looked calm).counts t at_t;
          complete = λ k at.
              elim ((s.looked calm).complete k t (within k (moment t).instant at) at_t at) [
                | inl has ↦ has
                | inr (lim, out) ↦ absurd (out (span_here inside calm lim))
              ];
        };
        zone = best.zone;
        whole = best.whole;
        some = best.some;
        ordered = s.ordered;
        shows = best.shows;
        left = best.left;
      }
