-- What a search answers from its two walks, one from the start and one from the edge of the other half, and what its limit means.
use Rattle.std.proofs.Common.{◌≡◌, ℤ, pos, ◌+ℤ◌, ◌-ℤ◌, ◌⊎◌, arith, refl, sym, ◌∙◌, inl, inr, ap, subst, Bool, true, false, Some}
use Rattle.std.proofs.lemmas.Bool.{false≢true}
use Rattle.std.proofs.lemmas.Int.{ints}
use Rattle.croner_base.specs.declared.errors.CronError.{CronError}
use Rattle.croner_base.specs.declared.errors.CronError.TheVariants.{TimeSearchLimitExceeded}
use Rattle.croner_base.specs.Zone.{Zone, Moment, reading, nanos_of}
use Rattle.croner_base.specs.Calm.{IsCalm, IsNear}
use Rattle.croner.specs.search.Runs.{Timetable, Job, job_in, Run, StartCounts, Nearest, Counts}
use Rattle.croner.specs.search.Limit.{IsWithin, InSpan, NoneInSpan, IsPast}
use Rattle.croner.specs.search.Premises.{IsSearchable, IsCalmStart, StartsCalm}
use Rattle.croner.specs.search.Searches.{IsFound, IsRefused}
use Rattle.croner.specs.Private.search.Schedule.{IsCovered}
use Rattle.croner.specs.Private.search.Held.{HoldsYears, HoldsSecond, IsBackendError}
use Rattle.croner.specs.Private.search.Walk.{RunOf, WalkedFrom, OutFrom, IsWalked, IsWalkRefused}
use Rattle.croner.specs.Private.search.Halves.{EdgeOf, HasTwin, CountsBoth, HasOtherHalf, IsHalfRefused, moment_from}
use Rattle.croner.proofs.zone.ErrorsKept.{backend_error}
use Rattle.croner.proofs.zone.Ahead.{Direction, Forward, Backward, opposite_way, along, Precedes, Reaches, offset_from, one_on, along-before, either, offset_within, reaches-equal, reaches-same, reaches_unless}
use Rattle.croner.proofs.zone.ZoneOrder.{calm_of, Calm, edge_line, past_break, reads_on}
use Rattle.croner.proofs.zone.HalfEdges.{order_whole, within_less}
use Rattle.croner.proofs.zone.Walks.{own_run_of, own_of_run, run_is_on, run_has_second, second_gives_run, is_run, counts_ahead, counts_reaches, true_or_false, begun, Seen, start_near, start_ahead, start_past, start_at, each_reads, first_of_run}

-- a run of what its clock shows or of a later second counts as a start
run_starts : (direction : Direction) (job : Job) (w i : ℤ) → job.timetable.scheduled w → RunOf job w i → Reaches direction (job.zone.reads i) w → StartCounts direction job i
run_starts Forward job w i own of on = let low = run_is_on job w i of in own_of_run job w i own of (omega (arith, ints))
run_starts Backward job w i own of on = second_gives_run job w i own of

-- what a walk answers counts
pub walked_counts : (direction : Direction) (inclusive : Bool) (job : Job) (s t : ℤ) → WalkedFrom direction inclusive job s t → Counts direction inclusive job s t
walked_counts direction inclusive job s t walked =
    elim walked.ahead [
      | inl past ↦ inl (past, second_gives_run job walked.second t walked.scheduled walked.run)
      | inr (is, e) ↦
          let from : Reaches direction (job.zone.reads s) walked.second = omega (arith, ints, walked.visited, start_near direction inclusive (job.zone.reads s)) in
          let on = subst (λ (x : ℤ). Reaches direction (job.zone.reads x) walked.second) (sym e) from in
          inr (is, e, subst (StartCounts direction job) e (run_starts direction job walked.second t walked.scheduled walked.run on))
    ]

-- ---- the second of a run, as a walk meets it

-- where both halves count it lies at what the clock shows at the run, or further on
second_on : (direction : Direction) (job : Job) → Calm job.zone.reads → CountsBoth direction job.timetable.fixed_time → (i : ℤ) → Run job i
    → (w : ℤ) × job.timetable.scheduled w × RunOf job w i × Reaches direction (job.zone.reads i) w
second_on Forward job calm each i run =
    let (w, own, of, low) = run_has_second job calm i run in
    (w, own, of, reaches-equal Forward (job.zone.reads i) w (each_reads job w i each of))
second_on Backward job calm both i run = let (w, own, of, low) = run_has_second job calm i run in (w, own, of, omega (arith, ints))

-- the first walk visits it, where the clock shows more at a run ahead than at the start
visited : (direction : Direction) (inclusive : Bool) (job : Job) (s i w : ℤ) → Counts direction inclusive job s i
    → (Precedes direction s i → Precedes direction (job.zone.reads s) (job.zone.reads i)) → Reaches direction (job.zone.reads i) w
    → Reaches direction (begun direction inclusive job s) w
visited direction inclusive job s i w (inl (past, run)) ahead on = start_past direction inclusive (job.zone.reads s) w (omega (arith, ints, ahead past))
visited direction inclusive job s i w (inr (is, same, start)) ahead on =
    start_at direction inclusive (job.zone.reads s) w is (subst (λ (x : ℤ). Reaches direction (job.zone.reads x) w) same on)

module _ (direction : Direction) (inclusive : Bool) (job : Job) (calm : Calm job.zone.reads) (s : ℤ) where
  -- so what counts is seen by the first walk, where no other half lies ahead
  seen_single : (i : ℤ) → CountsBoth direction job.timetable.fixed_time → (HasTwin direction job.zone.reads s → ⊥) → Counts direction inclusive job s i
      → Seen direction inclusive job s i
  seen_single i both single counts =
      let (w, own, of, on) = second_on direction job calm both i (is_run direction inclusive job s i counts) in
      let from = visited direction inclusive job s i w counts (λ past. reads_on direction job.zone.reads calm s i single past) on in
      (w, from, own, of, counts_ahead direction inclusive job s i counts)

  -- else it is seen by the first walk before the edge, or by the one from the edge
  seen_twice : (e i : ℤ) → CountsBoth direction job.timetable.fixed_time → EdgeOf direction job.zone.reads s e → Counts direction inclusive job s i
      → (Precedes direction i e × Seen direction inclusive job s i) ⊎ (Reaches direction e i × Seen direction true job e i)
  seen_twice e i both edge counts =
      let (w, own, of, on) = second_on direction job calm both i (is_run direction inclusive job s i counts) in
      elim (either direction i e) [
        | inr past ↦
            let line = past_break job.zone.reads calm direction e i edge.breaks past in
            inr (past, (w, omega (arith, ints), own, of, start_ahead direction true e i past))
        | inl before ↦
            let ahead : Precedes direction s i → Precedes direction (job.zone.reads s) (job.zone.reads i) = λ past.
            let line = edge_line direction job.zone.reads calm s e s i edge (reaches-same direction s) (omega (arith, ints)) before in omega (arith, ints) in
            inl (before, (w, visited direction inclusive job s i w counts ahead on, own, of, counts_ahead direction inclusive job s i counts))
      ]

-- where the other half does not count, as for a fixed-time job forward, or lies before the start
seen_alone : (direction : Direction) (inclusive : Bool) (job : Job) → Calm job.zone.reads → (s i : ℤ)
    → (CountsBoth direction job.timetable.fixed_time → ⊥) ⊎ (HasTwin direction job.zone.reads s → ⊥) → Counts direction inclusive job s i → Seen direction inclusive job s i
seen_alone Backward inclusive job calm s i alone counts =
    seen_single Backward inclusive job calm s i tt (elim alone [ inl one_half ↦ absurd (one_half tt) | inr single ↦ single ]) counts
seen_alone Forward inclusive job calm s i alone counts =
    elim (true_or_false job.timetable.fixed_time) [
      | inr each ↦ seen_single Forward inclusive job calm s i each (elim alone [ inl one_half ↦ absurd (one_half each) | inr single ↦ single ]) counts
      | inl fixed ↦
          let r = job.zone.reads s in
          elim counts [
            | inl (past, run) ↦
                let (w, own, of, low) = run_has_second job calm i run in
                (w, start_past Forward inclusive r w ((first_of_run job w i fixed of).before s past), own, of, inl past)
            | inr (is, e, own) ↦
                (r, start_at Forward inclusive r r is (reaches-same Forward r), own.0, subst (RunOf job r) (sym e) (own_run_of job calm s own), inr (is, e))
          ]
    ]

-- ---- a run in the span is of a second that is covered

run_is_covered : (direction : Direction) (job : Job) → Calm job.zone.reads → (w i : ℤ) → RunOf job w i → IsWithin direction (job.zone.reads i)
    → IsCovered direction job.timetable.fixed_time w
run_is_covered Forward job calm w i of within = omega (arith, ints, run_is_on job w i of)
run_is_covered Backward job calm w i (inl (each, e)) within = subst (λ (b : Bool). IsCovered Backward b w) (sym each) (omega (arith, ints))
run_is_covered Backward job calm w i (inr (fixed, first, date)) within =
    let before = first.before (i -ℤ pos 1) (omega (arith, ints)) in
    let small = calm.forth (i -ℤ pos 1) in
    let here : job.zone.reads (i -ℤ pos 1 +ℤ pos 1) ≡ job.zone.reads i = ap job.zone.reads (omega (arith, ints)) in
    subst (λ (b : Bool). IsCovered Backward b w) (sym fixed) (omega (arith, ints))

-- a walk that is out sees nothing in the span: no run of a second that it has passed, nor of one that is left
unseen : (direction : Direction) (inclusive : Bool) (job : Job) → Calm job.zone.reads → (s : ℤ) → OutFrom direction inclusive job s → (i : ℤ)
    → IsWithin direction (job.zone.reads i) → Seen direction inclusive job s i → ⊥
unseen direction inclusive job calm s (cursor, none, out) i within (w, on, own, of, ahead) =
    elim (either direction w cursor) [
      | inl lt ↦ none w i on lt own of ahead
      | inr le ↦ out w le (run_is_covered direction job calm w i of within) own
    ]

-- ---- as the code has them

pub holds_here : (m : Moment) → IsSearchable m → HoldsSecond m.zone (reading m)
holds_here m h = λ c at. h.held.near c (subst (IsNear (reading m)) (sym at) (omega (arith, ints), omega (arith, ints)))

reaches_so : (direction : Direction) (a b : Moment) → a.fraction ≡ 0 → b.fraction ≡ 0 → (Precedes direction (nanos_of a) (nanos_of b) → ⊥)
    → Reaches direction b.instant a.instant
reaches_so direction a b f g never = reaches_unless direction b.instant a.instant (λ lt. never ((order_whole direction a b f g).1 lt))

pub second_error : (lack : Bool) (start : Moment) (z : Zone) (e : CronError) → z ≡ start.zone → IsBackendError lack (IsCalm z → HoldsYears z → ⊥) e
    → IsBackendError lack (IsSearchable start → ⊥) e
second_error lack start z e same error =
    backend_error lack _ _ e
    (λ stuck h. subst (λ (x : Zone). IsCalm x → HoldsYears x → ⊥) same stuck h.starts.calm (record { seconds = h.held.years; instants = h.held.year_instants })) error

module _ {T : Type 0} (moment : T → Moment) (direction : Direction) (inclusive : Bool) (start : Moment) (timetable : Timetable) where
  abbrev job : Job
  job = job_in start.zone timetable

  -- the start is not past the years
  abbrev Left : Type 0
  Left = IsPast direction inclusive timetable.scheduled (reading start) → ⊥

  abbrev Answers : T → Type 0
  Answers t = IsWalked moment direction inclusive job start t

  abbrev Out : Type 0
  Out = StartsCalm start → OutFrom direction inclusive job start.instant

  abbrev NoneLeft : Type 0
  NoneLeft = StartsCalm start → NoneInSpan direction inclusive job start.instant

  -- the other half counts not, or there is none ahead
  abbrev Alone : Type 0
  Alone = StartsCalm start → (CountsBoth direction timetable.fixed_time → ⊥) ⊎ (HasTwin direction start.zone.reads start.instant → ⊥)

  -- an answer of a walk in the start's zone is found where it is the nearest
  found_by : (counts_itself : Bool) (from : Moment) (t : T) → Left → IsWalked moment direction counts_itself job from t
      → (StartsCalm start → Nearest direction inclusive job start.instant (moment t).instant) → IsFound direction inclusive timetable start (moment t)
  found_by counts_itself from t left walked nearest =
      record { nearest = nearest; zone = walked.zone_is; whole = walked.whole; shows = walked.shows; left = left }

  first_counts : (t : T) → Answers t → StartsCalm start → Counts direction inclusive job start.instant (moment t).instant
  first_counts t walked h = walked_counts direction inclusive job start.instant (moment t).instant (walked.walked h)

  -- a walk's answer is no later than what it sees
  least : (counts_itself : Bool) (from : Moment) (t : T) → IsWalked moment direction counts_itself job from t → IsCalmStart start.zone from.fraction
      → (j : ℤ) → Seen direction counts_itself job from.instant j → Reaches direction (moment t).instant j
  least counts_itself from t walked h j (w, visits, own, of, ahead) = (walked.walked h).nearest w j visits own of ahead

  first_unseen : Out → StartsCalm start → (i : ℤ) → InSpan direction start.zone.reads i → Seen direction inclusive job start.instant i → ⊥
  first_unseen out h i span seen = unseen direction inclusive job (calm_of start.zone h.calm) start.instant (out h) i (span i (reaches-same direction i)) seen

  pub found_alone : Left → (t : T) → Alone → Answers t → IsFound direction inclusive timetable start (moment t)
  found_alone left t alone walked =
      found_by inclusive start t left walked
      (λ h. record {
        counts = first_counts t walked h;
        nearest = λ j counts.
            least inclusive start t walked h j (seen_alone direction inclusive job (calm_of start.zone h.calm) start.instant j (alone h) counts);
      })

  pub limit_alone : Alone → Out → NoneLeft
  limit_alone alone out h = λ i span counts.
      first_unseen out h i span (seen_alone direction inclusive job (calm_of start.zone h.calm) start.instant i (alone h) counts)

  module _ (edge : T) (both : CountsBoth direction timetable.fixed_time) (half : HasOtherHalf moment direction start (Some edge)) where
    abbrev e : ℤ
    e = (moment edge).instant

    -- a walk from the edge
    abbrev AnswersThere : T → Type 0
    AnswersThere u = IsWalked moment direction true (job_in (moment edge).zone timetable) (moment edge) u

    abbrev OutThere : Type 0
    OutThere = IsCalmStart (moment edge).zone (moment edge).fraction → OutFrom direction true (job_in (moment edge).zone timetable) e

    calm_there : StartsCalm start → IsCalmStart start.zone (moment edge).fraction
    calm_there h = record { calm = h.calm; whole = half.1 ∙ h.whole }

    -- it is one in the start's own zone
    answers_here : (u : T) → AnswersThere u → IsWalked moment direction true job (moment edge) u
    answers_here u walked = subst (λ (z : Zone). IsWalked moment direction true (job_in z timetable) (moment edge) u) half.0 walked

    second_least : (u : T) → AnswersThere u → StartsCalm start → (j : ℤ) → Seen direction true job e j → Reaches direction (moment u).instant j
    second_least u there h j seen = least true (moment edge) u (answers_here u there) (calm_there h) j seen

    second_unseen : OutThere → StartsCalm start → (i : ℤ) → InSpan direction start.zone.reads i → Seen direction true job e i → ⊥
    second_unseen out h i span seen =
        let here = subst (λ (z : Zone). IsCalmStart z (moment edge).fraction → OutFrom direction true (job_in z timetable) e) half.0 out in
        unseen direction true job (calm_of start.zone h.calm) e (here (calm_there h)) i (span i (reaches-same direction i)) seen

    -- what holds of all that the first walk sees before the edge, and of all that the one from the edge sees, holds of all that counts
    by_halves : (P : ℤ → Type 0) → StartsCalm start
        → ((j : ℤ) → Reaches direction start.instant j → Precedes direction j e → Seen direction inclusive job start.instant j → P j)
        → ((j : ℤ) → Reaches direction e j → Seen direction true job e j → P j) → (j : ℤ) → Counts direction inclusive job start.instant j → P j
    by_halves P h first second j counts =
        elim (seen_twice direction inclusive job (calm_of start.zone h.calm) start.instant e j both (half.2 h) counts) [
          | inl (before, seen) ↦ first j (counts_reaches direction inclusive job start.instant j counts) before seen
          | inr (on, seen) ↦ second j on seen
        ]

    -- the first walk's answer, where nothing from the edge on is nearer
    first_by : Left → (t : T) → Answers t → (StartsCalm start → (j : ℤ) → Reaches direction e j → Seen direction true job e j → Reaches direction (moment t).instant j)
        → IsFound direction inclusive timetable start (moment t)
    first_by left t walked far =
        found_by inclusive start t left walked
        (λ h. record {
          counts = first_counts t walked h;
          nearest = by_halves (Reaches direction (moment t).instant) h (λ j from before seen. least inclusive start t walked h j seen) (far h);
        })

    -- the answer of the walk from the edge, where nothing before the edge is nearer
    second_by : Left → (u : T) → AnswersThere u
        → (StartsCalm start → (j : ℤ) → Reaches direction start.instant j → Precedes direction j e → Seen direction inclusive job start.instant j → Reaches direction (moment u).instant j)
        → IsFound direction inclusive timetable start (moment u)
    second_by left u there near =
        found_by true (moment edge) u left (answers_here u there)
        (λ h.
        let u_counts = walked_counts direction true job e (moment u).instant ((answers_here u there).walked (calm_there h)) in
        let ahead : Precedes direction start.instant (moment u).instant =
        omega (arith, ints, (half.2 h).from, counts_reaches direction true job e (moment u).instant u_counts) in
        record {
          counts = inl (ahead, is_run direction true job e (moment u).instant u_counts);
          nearest = by_halves (Reaches direction (moment u).instant) h (near h) (λ j on seen. second_least u there h j seen);
        })

    pub first_before : Left → (t : T) → Precedes direction (nanos_of (moment t)) (nanos_of (moment edge)) → Answers t → IsFound direction inclusive timetable start (moment t)
    first_before left t before walked =
        first_by left t walked
        (λ h j on seen. omega (arith, ints, (order_whole direction (moment t) (moment edge) walked.whole (calm_there h).whole).0 before))

    pub first_nearer : Left → (t u : T) → (Precedes direction (nanos_of (moment u)) (nanos_of (moment t)) → ⊥) → Answers t → AnswersThere u
        → IsFound direction inclusive timetable start (moment t)
    first_nearer left t u not_nearer walked there =
        let le = reaches_so direction (moment u) (moment t) (answers_here u there).whole walked.whole not_nearer in
        first_by left t walked (λ h j on seen. omega (arith, ints, second_least u there h j seen))

    pub second_nearer : Left → (t u : T) → Precedes direction (nanos_of (moment u)) (nanos_of (moment t)) → Answers t → AnswersThere u
        → IsFound direction inclusive timetable start (moment u)
    second_nearer left t u nearer walked there =
        let lt = (order_whole direction (moment u) (moment t) (answers_here u there).whole walked.whole).0 nearer in
        second_by left u there (λ h j from before seen. omega (arith, ints, least inclusive start t walked h j seen))

    pub second_none : (t : T) → (Precedes direction (nanos_of (moment t)) (nanos_of (moment edge)) → ⊥) → Answers t → OutThere → NoneLeft
    second_none t past walked out h = λ i span counts.
        let le = reaches_so direction (moment t) (moment edge) walked.whole (calm_there h).whole past in
        by_halves (λ j. InSpan direction start.zone.reads j → ⊥) h
        (λ j from before seen inside. omega (arith, ints, least inclusive start t walked h j seen)) (λ j on seen inside. second_unseen out h j inside seen) i counts span

    -- ---- after the first walk's limit

    pub limit_twice : Out → OutThere → NoneLeft
    limit_twice out second h = λ i span counts.
        by_halves (λ j. InSpan direction start.zone.reads j → ⊥) h
        (λ j from before seen inside. first_unseen out h j inside seen) (λ j on seen inside. second_unseen second h j inside seen) i counts span

    -- the last instant of the half that the start is on
    module _ (own : T) (back : Direction) (way : back ≡ opposite_way direction) (moved : moment own ≡ moment_from back (moment edge) 1) where
      own_before : along direction e ≡ along direction (moment own).instant +ℤ pos 1
      own_before = along-before direction (moment own).instant e (ap (λ (m : Moment). m.instant) moved ∙ ap (λ (d : Direction). one_on d e) way)

      own_reads : reading (moment own) ≡ start.zone.reads (moment own).instant
      own_reads = ap (λ (z : Zone). z.reads (moment own).instant) (ap (λ (m : Moment). m.zone) moved ∙ half.0)

      -- the own half reaches past the span
      pub limit_late : (IsWithin direction (reading (moment own)) → ⊥) → Out → NoneLeft
      limit_late late out h = λ i span counts.
          let behind = own_before in
          by_halves (λ j. InSpan direction start.zone.reads j → ⊥) h (λ j from before seen inside. first_unseen out h j inside seen)
          (λ j on seen inside. late (subst (IsWithin direction) (sym own_reads) (inside (moment own).instant (omega (arith, ints))))) i counts span

      -- it does not: up to the edge the clock goes straight on, and the walk from the edge has the nearest run
      pub second_found : Left → (u : T) → IsWithin direction (reading (moment own)) → Out → AnswersThere u → IsFound direction inclusive timetable start (moment u)
      second_found left u within out there =
          second_by left u there
          (λ h j from before seen.
          let calm = calm_of start.zone h.calm in
          let behind = own_before in
          let line = edge_line direction start.zone.reads calm start.instant e j (moment own).instant (half.2 h) from (omega (arith, ints)) (omega (arith, ints)) in
          let inside = within_less direction (start.zone.reads j) (start.zone.reads (moment own).instant) (omega (arith, ints)) (subst (IsWithin direction) own_reads within) in
          absurd (unseen direction inclusive job calm start.instant (out h) j inside seen))

pub own_error : {T : Type 0} (moment : T → Moment) (direction way : Direction) (start : Moment) (edge : T) (lack : Bool) (e : CronError) → way ≡ opposite_way direction
    → HasOtherHalf moment direction start (Some edge) → IsBackendError lack ((moment edge).zone.holds (offset_from way (moment edge).instant 1) ≡ false) e
    → IsBackendError lack (IsSearchable start → ⊥) e
own_error moment direction way start edge lack e same (zone_is, fraction_is, edge_of, (n, le, at)) error =
    let own = offset_from way (moment edge).instant 1 in
    let there = offset_within direction start.instant n in
    let near = offset_within way (moment edge).instant 1 in
    backend_error lack _ _ e
    (λ stuck h.
    false≢true (sym (subst (λ (z : Zone). z.holds own ≡ false) zone_is stuck) ∙ h.held.near_instants own (omega (arith, ints), omega (arith, ints)))) error

-- ---- why a search is refused

-- a start that lies outside the span: no instant from there on lies in it
pub none_outside : (direction : Direction) (inclusive : Bool) (job : Job) (s : ℤ) → (IsWithin direction (job.zone.reads s) → ⊥) → NoneInSpan direction inclusive job s
none_outside direction inclusive job s outside = λ i span counts. outside (span s (counts_reaches direction inclusive job s i counts))

module _ (lack : Bool) (direction : Direction) (inclusive : Bool) (timetable : Timetable) (start : Moment) where
  -- the limit, with what it says
  pub refused_limit : (StartsCalm start → NoneInSpan direction inclusive (job_in start.zone timetable) start.instant)
      → IsRefused lack direction inclusive timetable start TimeSearchLimitExceeded
  refused_limit none = record { limit = λ h e. none h; promised = λ h. inl refl; kind = inl (inl refl); past = λ p. refl }

  -- the backend's error, from a start that is not past the years
  pub refused_backend : (e : CronError) → (IsPast direction inclusive timetable.scheduled (reading start) → ⊥) → IsBackendError lack (IsSearchable start → ⊥) e
      → IsRefused lack direction inclusive timetable start e
  refused_backend e left error = record {
    limit = λ h is. elim error [ inl (memory, can) ↦ absurd (cc) | inr (inl date, stuck) ↦ absurd (cc) | inr (inr time, stuck) ↦ absurd (cc) ];
    promised = λ h. elim error [ inl memory ↦ inr memory | inr (kind, stuck) ↦ absurd (stuck h) ];
    kind = elim error [ inl memory ↦ inl (inr memory) | inr (kind, stuck) ↦ inr kind ];
    past = λ p. absurd (left p);
  }

  -- the refusal of the other half
  pub refused_half : (e : CronError) → (IsPast direction inclusive timetable.scheduled (reading start) → ⊥) → IsHalfRefused lack start e
      → IsRefused lack direction inclusive timetable start e
  refused_half e left error =
      elim error [
        | inl (limit, out) ↦ subst (λ (x : CronError). IsRefused lack direction inclusive timetable start x) (sym limit) (refused_limit (λ h. absurd (out h)))
        | inr backend ↦ refused_backend e left backend
      ]

  -- the refusal of the first walk
  pub refused_walk : (e : CronError) → IsWalkRefused lack direction inclusive timetable start e → IsRefused lack direction inclusive timetable start e
  refused_walk e walk = refused_backend e (λ p. walk.ahead p.1) (second_error lack start start.zone e refl walk.error)
