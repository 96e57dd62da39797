-- All that stand at the nearest instant, taken one after the other, and held: what they come to together.
use Rattle.std.proofs.Common.{◌≡◌, ◌⊎◌, inl, inr, ℕ, ◌<◌, ◌≤◌, ℤ, arith, refl, sym, ap, subst, ◌∙◌, Bool, true, List, [], ◌∷◌, ◌++◌, length, map, get_or, Option, Some, None}
use Rattle.std.proofs.Math.Logic.{∥∥₁_elim}
use Rattle.std.proofs.lemmas.Bool.{cases_lt}
use Rattle.std.proofs.lemmas.Int.{ints}
use Rattle.std.proofs.lemmas.List.{length_push, nil_from_length}
use Rattle.std.proofs.lemmas.List.Elements.{All-nil, All-head, All-tail, All-push, All-contains, Contains-push, Contains-append_left, Contains-append_right}
use Rattle.std.proofs.lemmas.List.Quantifiers.{all_pairs_push}
use Rattle.std.proofs.lemmas.List.Sorted.{All-permutation}
use Rattle.std.proofs.lemmas.List.Sums.{sum_by-cons, sum_by_push, get_or-le-sum_by}
use Rattle.std.proofs.lemmas.Option.{slice_get_cases, slice_get-map, get_or_from_slice_get}
use Rattle.std.specs.Prelude.{slice_get, slice_index_or, option_map, IfSome, IfNone}
use Rattle.std.specs.List.{All, AllPairs, Contains, sum_by}
use Rattle.croner_base.specs.declared.errors.CronError.{CronError}
use Rattle.croner_base.specs.declared.errors.CronError.TheVariants.{TimeSearchLimitExceeded, OutOfMemory}
use Rattle.croner_base.specs.Zone.{Moment, reading, nanos_of}
use Rattle.croner_base.specs.declared.time.Direction.{Direction}
use Rattle.croner_pattern.specs.Meaning.{Meaning}
use Rattle.croner_pattern.specs.Shapes.{has_field_shapes}
use Rattle.croner.specs.declared.crontable.due.Due.{Due}
use Rattle.croner.specs.declared.job.Cron.{Cron}
use Rattle.croner.specs.Views.{job_of}
use Rattle.croner.specs.crontable.Tables.{CountsAt, IsTableFound, IsTableRefused}
use Rattle.croner.specs.Private.crontable.Dues.{nanos_due}
use Rattle.croner.specs.Private.crontable.Kept.{is_place, IsDue, AreKept, IsHeld, IsPopped, IsApart}
use Rattle.croner.specs.Private.crontable.Met.{MetAnswers, DecidesRefusal}
use Rattle.croner.specs.search.Limit.{InSpan, IsPast}
use Rattle.croner.specs.search.PatternJob.{timetable_of}
use Rattle.croner.specs.search.Premises.{StartsCalm}
use Rattle.croner.specs.search.Runs.{Precedes, Reaches}
use Rattle.croner.specs.search.Searches.{IsFound}
use Rattle.croner.proofs.crontable.DueOrder.{ComesAfter, all_after}
use Rattle.croner.proofs.crontable.KeptRuns.{same_place, counted_once, counted_never, popped_kept}
use Rattle.croner.proofs.crontable.KnownRuns.{found_known}
use Rattle.croner.proofs.crontable.TableRuns.{IsBest, Span, Searched, order_nanos, found_met, none_met, room_refused, refused_in_room}
use Rattle.croner.proofs.crontable.TableSearch.{refused_by}
use Rattle.croner.proofs.zone.Ahead.{precedes-reaches, precedes-trans, reaches-equal, same_or_ahead, not_both}

same_some : {A : Type 0} (x y : A) → Some x ≡ Some y → x ≡ y
same_some x y e = cc

none_is_some : {A : Type 0} (x : A) → None ≡ Some x → ⊥
none_is_some x e = absurd (cc)

-- each pattern of a table has the shapes of a pattern that was read
pub shaped_at : (jobs : List Cron) (k : ℕ) (m : Meaning) → slice_get (map job_of jobs) k ≡ Some m → has_field_shapes m ≡ true
shaped_at jobs k m at = elim (slice_get_cases jobs k).1 [
  | inl (job, lt, it, same) ↦
      let e : job_of job ≡ m = same_some (job_of job) m (sym (ap (option_map job_of) it) ∙ sym (slice_get-map job_of jobs k) ∙ at) in
      subst (λ x. has_field_shapes x ≡ true) e job.shaped
  | inr (past, none) ↦
      absurd (none_is_some m (sym (ap (option_map job_of) none) ∙ sym (slice_get-map job_of jobs k) ∙ at))
]

stands_there : (patterns : List Meaning) (k : ℕ) → k < length patterns → (m : Meaning) × (slice_get patterns k ≡ Some m)
stands_there patterns k lt = elim (slice_get_cases patterns k).1 [
  | inl (m, within, at, same) ↦ (m, at)
  | inr (past, none) ↦ absurd (omega (arith, lt, past))
]

-- a place that is counted is there
seated : {X : Type 0} (place : X → ℕ) (k : ℕ) (xs : List X) → (sum_by (λ x. is_place k (place x)) xs ≡ 0) ⊎ ((x : X) × Contains xs x × (place x ≡ k))
seated place k [] = inl refl
seated {X} place k (x ∷ xs) = elim (same_place (place x) k) [
  | inl e ↦ inr (x, Contains-append_left (x ∷ []) xs x (Contains-push [] x), e)
  | inr other ↦
      elim (seated place k xs) [
        | inl none ↦
            let a = sum_by-cons (λ (y : X). is_place k (place y)) x xs in
            let b = counted_never k (place x) other in
            inl (omega (arith, a, b, none))
        | inr (y, has, e) ↦ inr (y, Contains-append_right (x ∷ []) xs y has, e)
      ]
]

no_pairs : AllPairs (◌<◌) []
no_pairs i j d lt within = absurd (omega arith)

same_moment : (a b : Moment) → a.zone ≡ b.zone → a.instant ≡ b.instant → a.fraction ≡ b.fraction → a ≡ b
same_moment a b p q r = λ i. record { zone = p i; instant = q i; fraction = r i }

below_other : (a b : ℕ) → a ≤ b → (b ≡ a → ⊥) → a < b
below_other a b le other = elim (cases_lt a b) [ inl lt ↦ lt | inr above ↦ absurd (other (omega (arith, le, above))) ]

one_instant : (a b : Moment) → a.fraction ≡ 0 → b.fraction ≡ 0 → nanos_of a ≡ nanos_of b → a.instant ≡ b.instant
one_instant a b f g e = omega (arith, ints, f, g, e)

module _ {T : Type 0} (moment : T → Moment) (patterns : List Meaning) (direction : Direction) (inclusive : Bool) (start : Moment) where
  abbrev Finds : ℕ → Moment → Type 0
  Finds k t = (m : Meaning) → slice_get patterns k ≡ Some m → IsFound direction inclusive (timetable_of m) start t

  abbrev Mine : Due T → Type 0
  Mine = IsDue moment patterns direction inclusive start

  -- what holds of the run that was taken first while more that stand at its instant are taken
  pub record Taken (first : T) (dues : List (Due T)) (waiting : List ℕ) (is_limited : Bool) : Type 0 where
    pub kept : AreKept moment patterns direction inclusive start dues waiting is_limited
    pub some : 0 < length waiting
    pub ordered : AllPairs (◌<◌) waiting
    pub finds : All (λ k. Finds k (moment first)) waiting
    pub due_after : All (λ due. Reaches direction (nanos_of (moment first)) (nanos_due moment due)) dues
    pub above : All (λ due. nanos_due moment due ≡ nanos_of (moment first) → All (λ k. k < due.place) waiting) dues
    pub zone : (moment first).zone ≡ start.zone
    pub whole : (moment first).fraction ≡ 0

module _ {T : Type 0} (moment : T → Moment) (patterns : List Meaning) (direction : Direction) (inclusive : Bool) (start : Moment)
    (shapes : (k : ℕ) (m : Meaning) → slice_get patterns k ≡ Some m → has_field_shapes m ≡ true) where
  abbrev Found : ℕ → Moment → Type 0
  Found = Finds {T = T} moment patterns direction inclusive start

  abbrev Own : Due T → Type 0
  Own = Mine moment patterns direction inclusive start

  abbrev Took : T → List (Due T) → List ℕ → Bool → Type 0
  Took = Taken moment patterns direction inclusive start

  due_finds : (due : Due T) → Own due → Found due.place (moment due.run)
  due_finds due is m at = found_known direction inclusive m start (moment due.run) (shapes due.place m at) (is.2 m at)

  ways : (dues : List (Due T)) → All Own dues → All (λ due. due.direction ≡ direction) dues
  ways dues all k d lt = (all k d lt).0

  -- of two runs that are kept no place is twice
  apart_places : (dues : List (Due T)) (waiting : List ℕ) (more : List ℕ) (is_limited : Bool) (place : ℕ) → AreKept moment patterns direction inclusive start dues more is_limited → more ≡ waiting ++ place ∷ []
      → All (λ due. due.place ≡ place → ⊥) dues
  apart_places dues waiting more is_limited place kept at k d lt e =
      let a = get_or-le-sum_by (λ (due : Due T). is_place place due.place) dues k d lt in
      let b = counted_once place (get_or dues k d).place e in
      let c = sum_by_push (is_place place) waiting place in
      let f = ap (sum_by (is_place place)) at in
      let g = counted_once place place refl in
      let h = kept.2 place in
      absurd (omega (arith, a, b, c, f, g, h))

  module _ (dues rest : List (Due T)) (waiting more : List ℕ) (is_limited : Bool) (run : T) (kept : AreKept moment patterns direction inclusive start dues waiting is_limited) (popped : IsPopped moment dues rest waiting more run) where
    after : AreKept moment patterns direction inclusive start rest more is_limited
    after = popped_kept moment patterns direction inclusive start dues rest waiting more is_limited run kept popped

    mine : Own popped.due
    mine = All-head Own popped.due rest (All-permutation Own dues (popped.due ∷ rest) popped.items kept.0)

    finds_it : Found popped.due.place (moment run)
    finds_it = let P : T → Type 0 = λ t. Found popped.due.place (moment t) in subst P popped.gives (due_finds popped.due mine)

    later : All (ComesAfter moment direction popped.due) rest
    later = all_after moment direction popped.due rest popped.above mine.0 (ways rest after.0)

    -- each that stands at its instant has a higher place
    higher : All (λ due. nanos_due moment due ≡ nanos_due moment popped.due → popped.due.place < due.place) rest
    higher k d lt e =
        let a = (later k d lt).1 e in
        let b = apart_places rest waiting more is_limited popped.due.place after popped.waits k d lt in
        elim (same_place (get_or rest k d).place popped.due.place) [ inl f ↦ absurd (b f) | inr other ↦ below_other popped.due.place (get_or rest k d).place a other ]

    nanos_run : nanos_due moment popped.due ≡ nanos_of (moment run)
    nanos_run = ap (λ t. nanos_of (moment t)) popped.gives

    -- the first of all
    pub taken_first : length waiting ≡ 0 → Took run rest more is_limited
    taken_first none =
        let (m, at) = stands_there patterns popped.due.place mine.1 in
        let found = finds_it m at in
        let empty : waiting ≡ [] = nil_from_length waiting none in
        let one : more ≡ popped.due.place ∷ [] = popped.waits ∙ ap (λ (xs : List ℕ). xs ++ popped.due.place ∷ []) empty in
        record {
          kept = after;
          some = let l = length_push waiting popped.due.place in let e = ap length popped.waits in omega (arith, l, e);
          ordered = subst (AllPairs (◌<◌)) (sym one) (all_pairs_push (◌<◌) [] popped.due.place no_pairs (λ k d within. absurd (omega arith)));
          finds = let P : ℕ → Type 0 = λ k. Found k (moment run) in subst (All P) (sym one) (All-push P [] popped.due.place (All-nil P) finds_it);
          due_after = λ k d lt. let P : ℤ → Type 0 = λ n. Reaches direction n (nanos_due moment (get_or rest k d)) in subst P nanos_run (later k d lt).0;
          above = λ k d lt e.
              let P : ℕ → Type 0 = λ p. p < (get_or rest k d).place in
              subst (All P) (sym one) (All-push P [] popped.due.place (All-nil P) (higher k d lt (e ∙ sym nanos_run)));
          zone = found.zone;
          whole = found.whole;
        }

    -- one more that stands at the instant of the first
    pub taken_more : (first : T) → Took first dues waiting is_limited → ((due : Due T) → nanos_due moment (slice_index_or dues 0 due) ≡ nanos_of (moment first)) → Took first rest more is_limited
    taken_more first taken tied =
        let (m, at) = stands_there patterns popped.due.place mine.1 in
        let found = due_finds popped.due mine m at in
        let level : nanos_due moment popped.due ≡ nanos_of (moment first) = ap (nanos_due moment) popped.first ∙ tied popped.due in
        let instant : (moment popped.due.run).instant ≡ (moment first).instant = one_instant (moment popped.due.run) (moment first) found.whole taken.whole level in
        let same : moment popped.due.run ≡ moment first = same_moment (moment popped.due.run) (moment first) (found.zone ∙ sym taken.zone) instant (found.whole ∙ sym taken.whole) in
        let B : Due T → Type 0 = λ due. Reaches direction (nanos_of (moment first)) (nanos_due moment due) in
        let A : Due T → Type 0 = λ due. nanos_due moment due ≡ nanos_of (moment first) → All (λ k. k < due.place) waiting in
        let due_after = All-permutation B dues (popped.due ∷ rest) popped.items taken.due_after in
        let above = All-permutation A dues (popped.due ∷ rest) popped.items taken.above in
        record {
          kept = after;
          some = let l = length_push waiting popped.due.place in let e = ap length popped.waits in omega (arith, l, e);
          ordered = subst (AllPairs (◌<◌)) (sym popped.waits) (all_pairs_push (◌<◌) waiting popped.due.place taken.ordered (All-head A popped.due rest above level));
          finds = let P : ℕ → Type 0 = λ k. Found k (moment first) in
              subst (All P) (sym popped.waits) (All-push P waiting popped.due.place taken.finds (subst (Found popped.due.place) same (due_finds popped.due mine)));
          due_after = All-tail B popped.due rest due_after;
          above = λ k d lt e.
              let P : ℕ → Type 0 = λ p. p < (get_or rest k d).place in
              subst (All P) (sym popped.waits) (All-push P waiting popped.due.place (All-tail A popped.due rest above k d lt e) (higher k d lt (e ∙ sym level)));
          zone = taken.zone;
          whole = taken.whole;
        }

  -- as the code takes it
  pub taken_again : (dues rest : List (Due T)) (waiting more : List ℕ) (lim mark : Bool) (first : T) (n : ℕ) (popped : Option T) → mark ≡ lim → IfSome popped (IsPopped moment dues rest waiting more) → IfNone popped (n ≡ 0) → 0 < n
      → Took first dues waiting lim → ((due : Due T) → nanos_due moment (slice_index_or dues 0 due) ≡ nanos_of (moment first)) → Took first rest more mark
  taken_again dues rest waiting more lim mark first n (Some run) same popped none some taken tied =
      subst (Took first rest more) (sym same) (taken_more dues rest waiting more lim run taken.kept popped first taken tied)
  taken_again dues rest waiting more lim mark first n None same popped none some taken tied = absurd (omega (arith, none, some))

  module _ (first : T) (dues : List (Due T)) (waiting : List ℕ) (is_limited : Bool) (taken : Took first dues waiting is_limited) where
    -- the others stand after it, where the first of them stands at another instant
    pub rest_ahead : (0 < length dues → IsApart moment dues first) → All (λ due. Precedes direction (nanos_of (moment first)) (nanos_due moment due)) dues
    rest_ahead apart k d lt =
        let due = get_or dues k d in
        let top = apart (omega (arith, lt)) in
        let here : top.due ≡ get_or dues 0 top.due = top.first in
        let R : Due T → Type 0 = λ x. Reaches direction (nanos_of (moment first)) (nanos_due moment x) in
        let W : Due T → Type 0 = λ x. x.direction ≡ direction in
        let reach = subst R (sym here) (taken.due_after 0 top.due (omega (arith, lt))) in
        let way = subst W (sym here) (taken.kept.0 0 top.due (omega (arith, lt))).0 in
        let later = all_after moment direction top.due dues top.above way (ways dues taken.kept.0) in
        elim (same_or_ahead direction (nanos_of (moment first)) (nanos_due moment top.due) reach) [
          | inl level ↦ absurd (top.other (sym level))
          | inr before ↦ precedes-trans direction (nanos_of (moment first)) (nanos_due moment top.due) (nanos_due moment due) before (later k d lt).0
        ]

    -- so it is held
    pub held_taken : (0 < length dues → IsApart moment dues first) → IsHeld moment patterns direction inclusive start first dues waiting
    held_taken apart =
        let before = rest_ahead apart in (
          taken.some,
          taken.ordered,
          λ k d lt m at. ∣ taken.finds k d lt m at ∣₁,
          λ k d lt.
              let is = taken.kept.0 k d lt in
              let (m, at) = stands_there patterns (get_or dues k d).place is.1 in
              order_nanos direction (moment first) (moment (get_or dues k d).run) taken.whole (due_finds (get_or dues k d) is m at).whole (before k d lt),
        )

  module _ (first : T) (dues : List (Due T)) (waiting : List ℕ) (is_limited : Bool) (kept : AreKept moment patterns direction inclusive start dues waiting is_limited)
      (held : IsHeld moment patterns direction inclusive start first dues waiting) where
    finds : All (λ k. Found k (moment first)) waiting
    finds k d lt m at = found_known direction inclusive m start (moment first) (shapes (get_or waiting k d) m at) (held.2 k d lt m at)

    first_found : (m : Meaning) × IsFound direction inclusive (timetable_of m) start (moment first)
    first_found = let (m, at) = stands_there patterns (get_or waiting 0 0) (kept.1 0 0 held.0) in (m, finds 0 0 held.0 m at)

    zone_held : (moment first).zone ≡ start.zone
    zone_held = first_found.1.zone

    whole_held : (moment first).fraction ≡ 0
    whole_held = first_found.1.whole

    -- a place of which the run counts
    abbrev Seen : ℕ → ℤ → Type 0
    Seen k j = (((due : Due T) × Contains dues due × (due.place ≡ k)) ⊎ Contains waiting k) ⊎ ((is_limited ≡ true) × ¬ (Span moment direction inclusive patterns start j))

    seen : StartsCalm start → (k : ℕ) (j : ℤ) → CountsAt direction inclusive patterns start.zone start.instant k j → Seen k j
    seen calm k j at = elim (seated (λ (due : Due T). due.place) k dues) [
      | inr there ↦ inl (inl there)
      | inl none ↦
          elim (seated (λ (p : ℕ). p) k waiting) [
            | inr (p, has, e) ↦ inl (inr (subst (Contains waiting) e has))
            | inl gone ↦
                let left = kept.3 k at.pattern at.stands (omega (arith, none, gone)) in
                inr (left.0, λ span. ∥∥₁_elim left.1 (λ a b. absurd a) (λ nothing. nothing calm j span at.counts))
          ]
    ]

    -- what a place's run says of all that counts there
    no_earlier : StartsCalm start → (k : ℕ) (t : Moment) (j : ℤ) (at : CountsAt direction inclusive patterns start.zone start.instant k j) → Found k t → Reaches direction t.instant j
    no_earlier calm k t j at found = ((found at.pattern at.stands).nearest calm).nearest j at.counts

    of_due : StartsCalm start → (k : ℕ) (j : ℤ) → CountsAt direction inclusive patterns start.zone start.instant k j → (due : Due T) → Contains dues due → due.place ≡ k → Precedes direction (moment first).instant j
    of_due calm k j at due has e =
        let is = All-contains Own dues due kept.0 has in
        let before = All-contains (λ (x : Due T). Precedes direction (moment first).instant (moment x.run).instant) dues due held.3 has in
        precedes-trans direction (moment first).instant (moment due.run).instant j before (no_earlier calm k (moment due.run) j at (subst (λ p. Found p (moment due.run)) e (due_finds due is)))

    found_in : (k : ℕ) → Contains waiting k → Found k (moment first)
    found_in k has = All-contains (λ p. Found p (moment first)) waiting k finds has

    searched_held : Searched moment direction inclusive patterns start (length patterns) (record { nearest = Some first; places = waiting; is_limited = is_limited })
    searched_held = record {
      ordered = held.1;
      below = kept.1;
      best = λ t e.
          let same : first ≡ t = same_some first t e in
          let P : T → Type 0 = λ x. IsBest moment direction inclusive patterns start (moment x) waiting in
          subst P same (record {
            zone = zone_held;
            whole = whole_held;
            some = held.0;
            shows = λ i d lt.
                let (m, at) = stands_there patterns (get_or waiting i d) (kept.1 i d lt) in
                record { pattern = m; stands = at; shows = (finds i d lt m at).shows };
            left = λ past.
                let k = get_or waiting 0 0 in
                let (m, at) = stands_there patterns k (kept.1 0 0 held.0) in
                let Q : Meaning → Type 0 = λ x. IsPast direction inclusive (timetable_of x).scheduled (reading start) in
                (finds 0 0 held.0 m at).left (subst Q (get_or_from_slice_get patterns k m m at) (past k m (kept.1 0 0 held.0)));
          });
      looked = λ calm. record {
        reached = λ k j lt at.
            elim (seen calm k j at) [
              | inl (inl (due, has, e)) ↦ inl (first, refl, precedes-reaches direction (moment first).instant j (of_due calm k j at due has e))
              | inl (inr has) ↦ inl (first, refl, no_earlier calm k (moment first) j at (found_in k has))
              | inr (lim, out) ↦ inr (lim, out)
            ];
        complete = λ k t lt e at.
            let same : first ≡ t = same_some first t e in
            let instant : (moment t).instant ≡ (moment first).instant = ap (λ (x : T). (moment x).instant) (sym same) in
            elim (seen calm k (moment t).instant at) [
              | inl (inl (due, has, f)) ↦
                  absurd (not_both direction (moment first).instant (moment t).instant (of_due calm k (moment t).instant at due has f) (reaches-equal direction (moment t).instant (moment first).instant instant))
              | inl (inr has) ↦ inl has
              | inr (lim, out) ↦ inr (lim, out)
            ];
        counts = λ t e i d lt.
            let same : first ≡ t = same_some first t e in
            let k = get_or waiting i d in
            let (m, at) = stands_there patterns k (kept.1 i d lt) in
            let P : T → Type 0 = λ x. CountsAt direction inclusive patterns start.zone start.instant k (moment x).instant in
            subst P same (record { pattern = m; stands = at; counts = ((finds i d lt m at).nearest calm).counts });
      };
    }

    -- what they come to, as it is decided
    pub held_found : (is_limited ≡ true → StartsCalm (moment first) → InSpan direction (moment first).zone.reads (moment first).instant) → IsTableFound direction inclusive patterns start (moment first) waiting
    held_found inside =
        found_met moment direction inclusive patterns start (record { nearest = Some first; places = waiting; is_limited = is_limited }) searched_held first refl inside

    pub held_refused : (lack : Bool) (e : CronError) → (e ≡ OutOfMemory) ⊎ DecidesRefusal moment lack direction (Some first) is_limited e → IsTableRefused direction inclusive patterns start e
    held_refused lack e (inl memory) = subst (IsTableRefused direction inclusive patterns start) (sym memory) (room_refused direction inclusive patterns start)
    held_refused lack e (inr why) =
        refused_in_room lack direction inclusive patterns start e
        (refused_by moment lack direction inclusive start patterns (record { nearest = Some first; places = waiting; is_limited = is_limited }) searched_held (Some first) refl is_limited e why)

  -- no job has a run, and none waits
  pub searched_nothing : (dues : List (Due T)) (waiting : List ℕ) (is_limited : Bool) → AreKept moment patterns direction inclusive start dues waiting is_limited → length dues ≡ 0 → length waiting ≡ 0
      → Searched moment direction inclusive patterns start (length patterns) (record { nearest = None; places = []; is_limited = is_limited })
  searched_nothing dues waiting is_limited kept none empty = record {
    ordered = no_pairs;
    below = All-nil (λ k. k < length patterns);
    best = λ t e. absurd (none_is_some t e);
    looked = λ calm. record {
      reached = λ k j lt at.
          let a = ap (sum_by (λ (due : Due T). is_place k due.place)) (nil_from_length dues none) in
          let b = ap (sum_by (is_place k)) (nil_from_length waiting empty) in
          let left = kept.3 k at.pattern at.stands (omega (arith, a, b)) in
          inr (left.0, λ span. ∥∥₁_elim left.1 (λ x y. absurd x) (λ nothing. nothing calm j span at.counts));
      complete = λ k t lt e. absurd (none_is_some t e);
      counts = λ t e. absurd (none_is_some t e);
    };
  }

  -- so the search is refused
  pub nothing_found : (dues : List (Due T)) (waiting : List ℕ) (is_limited : Bool) → AreKept moment patterns direction inclusive start dues waiting is_limited → length dues ≡ 0 → length waiting ≡ 0
      → IsTableRefused direction inclusive patterns start TimeSearchLimitExceeded
  nothing_found dues waiting is_limited kept none empty =
      let met : MetAnswers T = record { nearest = None; places = []; is_limited = is_limited } in
      refused_in_room true direction inclusive patterns start TimeSearchLimitExceeded
      (none_met moment direction inclusive patterns start met (searched_nothing dues waiting is_limited kept none empty) true refl)
