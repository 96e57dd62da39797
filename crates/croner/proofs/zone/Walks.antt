-- Walks: runs and the seconds that they are of, what a walk does at a second that one instant shows, two, or none, and how it goes on.
use Rattle.std.proofs.Common.{◌≡◌, ℤ, pos, ◌+ℤ◌, ◌-ℤ◌, ◌<ℤ◌, ◌≤ℤ◌, ◌⊎◌, arith, refl, sym, ◌∙◌, inl, inr, ap, subst, Bool, true, false, Some, None, ℕ, Option}
use Rattle.std.proofs.lemmas.Int.{ints}
use Rattle.std.proofs.lemmas.Bool.{false≢true}
use Rattle.croner_base.specs.declared.time.value.Resolution.TheVariants.{Single, Ambiguous, Gap}
use Rattle.croner_base.specs.Zone.{Moment, Zone, Names}
use Rattle.croner_base.specs.declared.time.civil.CivilDateTime.{CivilDateTime}
use Rattle.croner_base.specs.Civil.{wall_second}
use Rattle.croner_base.specs.Calm.{IsCalm, IsSearched}
use Rattle.croner.specs.Private.search.Halves.{Break}
use Rattle.croner.specs.Private.search.Walk.{First, RunOf, NoneOf, WalkedFrom, walk_start, UnreadTo, GapEnd, NearerOf, ChosenOf, Walking, IsOneOf, Onward, Paces, CannotMove, IsWalked, OutFrom, HasGapEnd, HasGapFront}
use Rattle.croner.specs.search.Runs.{Job, Run, OwnRun, Counts, Ahead}
use Rattle.croner.specs.search.Limit.{NoneAhead}
use Rattle.croner.specs.search.Premises.{IsCalmStart}
use Rattle.croner.specs.Private.search.Gaps.{GoesPast}
use Rattle.croner.specs.Private.search.Held.{HoldsYears}
use Rattle.croner.specs.Private.search.Schedule.{NextScheduled, NoneScheduled}
use Rattle.croner.specs.Private.search.Wall.{IsLastYear}
use Rattle.croner.proofs.zone.ZoneOrder.{Calm, cases_lt_z, same_or_not, below_before, steady, Exactly, calm_of, exact_of, first_if_least, firsts_in_order, first_over_gap, last_is_ahead, nearest_in_order}
use Rattle.croner.proofs.zone.Ahead.{Direction, Forward, Backward, Reaches, reaches-equal, Precedes, one_on, along-offset, either, not_both, same_or_ahead, along, both_ways, offset_within, reaches-same, reaches_unless}
use Rattle.croner.proofs.zone.WallSeconds.{IsFar, last_year_far}

pub true_or_false : (b : Bool) → (b ≡ true) ⊎ (b ≡ false)
true_or_false true = inl refl
true_or_false false = inr refl

-- the end of a gap is the first instant that reads a second of the gap or more
pub gap_end_is_first : (reads : ℤ → ℤ) → Calm reads → (w i : ℤ) → reads (i -ℤ pos 1) <ℤ w → w <ℤ reads i → First reads w i
gap_end_is_first reads calm w i below above =
    let p : ℤ = i -ℤ pos 1 in
    let end : reads (p +ℤ pos 1) ≡ reads i = ap reads (omega (arith, ints)) in
    let breaks : Break reads p = λ (e : reads (p +ℤ pos 1) ≡ reads p +ℤ pos 1). omega (arith, ints) in
    record { reached = omega (arith, ints); before = λ j h. omega (arith, ints, below_before reads calm p j breaks (omega (arith, ints))) }

module _ (job : Job) (calm : Calm job.zone.reads) where
  -- what the clock shows at a run of its own is the second that it is of
  pub own_run_of : (i : ℤ) → OwnRun job i → RunOf job (job.zone.reads i) i
  own_run_of i (own, least) =
      elim (true_or_false job.timetable.fixed_time) [
        | inl fixed ↦ inr (fixed, first_if_least job.zone.reads calm (job.zone.reads i) i refl (least fixed), inl refl)
        | inr each ↦ inl (each, refl)
      ]

  -- each run is the run of a scheduled second, and each run of one is a run
  pub run_has_second : (i : ℤ) → Run job i → (w : ℤ) × job.timetable.scheduled w × RunOf job w i × (w ≤ℤ job.zone.reads i)
  run_has_second i run =
      elim run [
        | inl own ↦ (job.zone.reads i, own.0, own_run_of i own, omega (arith, ints))
        | inr (fixed, (w, below, above, own), date) ↦ (w, own, inr (fixed, gap_end_is_first job.zone.reads calm w i below above, inr date), omega (arith, ints))
      ]

pub each_reads : (job : Job) (w i : ℤ) → job.timetable.fixed_time ≡ false → RunOf job w i → job.zone.reads i ≡ w
each_reads job w i each of = elim of [ inl (f, e) ↦ e | inr (fixed, first, date) ↦ absurd (cc) ]

pub first_of_run : (job : Job) (w i : ℤ) → job.timetable.fixed_time ≡ true → RunOf job w i → First job.zone.reads w i
first_of_run job w i fixed of = elim of [ inl (f, e) ↦ absurd (cc) | inr (f, first, date) ↦ first ]

pub own_of_run : (job : Job) (w i : ℤ) → job.timetable.scheduled w → RunOf job w i → job.zone.reads i ≡ w → OwnRun job i
own_of_run job w i own run e = (subst job.timetable.scheduled (sym e) own, λ fixed j h same. omega (arith, ints, (first_of_run job w i fixed run).before j h))

pub run_is_on : (job : Job) (w i : ℤ) → RunOf job w i → w ≤ℤ job.zone.reads i
run_is_on job w i run = elim run [ inl (each, e) ↦ omega (arith, ints) | inr (fixed, first, date) ↦ first.reached ]

pub second_gives_run : (job : Job) (w i : ℤ) → job.timetable.scheduled w → RunOf job w i → Run job i
second_gives_run job w i own run =
    elim (same_or_not (job.zone.reads i) w) [
      | inl e ↦ inl (own_of_run job w i own run e)
      | inr other ↦ elim run [
        | inl (each, e) ↦ absurd (other e)
        | inr (fixed, first, inl e) ↦ absurd (other e)
        | inr (fixed, first, inr date) ↦ inr (fixed, (w, first.before (i -ℤ pos 1) (omega (arith, ints)), omega (arith, ints, first.reached), own), date)
      ]
    ]

-- what counts is a run
pub is_run : (direction : Direction) (inclusive : Bool) (job : Job) (s i : ℤ) → Counts direction inclusive job s i → Run job i
is_run direction inclusive job s i (inl (past, run)) = run
is_run Forward inclusive job s i (inr (is, e, own)) = subst (Run job) (sym e) (inl own)
is_run Backward inclusive job s i (inr (is, e, run)) = subst (Run job) (sym e) run

pub counts_ahead : (direction : Direction) (inclusive : Bool) (job : Job) (s i : ℤ) → Counts direction inclusive job s i → Ahead direction inclusive s i
counts_ahead direction inclusive job s i counts = elim counts [ inl (past, run) ↦ inl past | inr (is, e, start) ↦ inr (is, e) ]

-- ahead of the start, or the start itself
pub counts_reaches : (direction : Direction) (inclusive : Bool) (job : Job) (s i : ℤ) → Counts direction inclusive job s i → Reaches direction s i
counts_reaches direction inclusive job s i counts = elim counts [ inl (past, run) ↦ omega (arith, ints) | inr (is, e, own) ↦ reaches-equal direction s i (sym e) ]

-- ---- a walk

-- where the walk from s begins
abbrev pub begun : Direction → Bool → Job → ℤ → ℤ
begun direction inclusive job s = walk_start direction inclusive (job.zone.reads s)

-- i is a run ahead of s, of a scheduled second that the walk from s visits
abbrev pub Seen : Direction → Bool → Job → ℤ → ℤ → Type 0
Seen direction inclusive job s i =
    (w : ℤ) × Reaches direction (begun direction inclusive job s) w × job.timetable.scheduled w × RunOf job w i × Ahead direction inclusive s i

-- the walk from s has come to a scheduled second, and no run of those that it has passed lies ahead
pub record Meets (direction : Direction) (inclusive : Bool) (job : Job) (s w : ℤ) : Type 0 where
  pub from : Reaches direction (begun direction inclusive job s) w
  pub own : job.timetable.scheduled w
  pub none : NoneOf direction inclusive job s (begun direction inclusive job s) w

-- ---- the start of a walk

-- a walk begins where its start reads, or one on
pub start_near : (direction : Direction) (inclusive : Bool) (r : ℤ)
    → Reaches direction r (walk_start direction inclusive r) × Reaches direction (walk_start direction inclusive r) (one_on direction r)
start_near direction true r = (omega (arith, ints), omega (arith, ints, along-offset direction r 1))
start_near direction false r = (omega (arith, ints, along-offset direction r 1), omega (arith, ints))

-- what it visits lies ahead of where its start reads, or there if that counts, and it visits what lies so
pub start_ahead : (direction : Direction) (inclusive : Bool) (r w : ℤ) → Reaches direction (walk_start direction inclusive r) w → Ahead direction inclusive r w
start_ahead direction true r w h = elim (same_or_ahead direction r w h) [ inl e ↦ inr (refl, sym e) | inr lt ↦ inl lt ]
start_ahead direction false r w h = inl (omega (arith, ints, along-offset direction r 1))

pub start_past : (direction : Direction) (inclusive : Bool) (r w : ℤ) → Precedes direction r w → Reaches direction (walk_start direction inclusive r) w
start_past direction inclusive r w h = omega (arith, ints, start_near direction inclusive r, along-offset direction r 1)

pub start_at : (direction : Direction) (inclusive : Bool) (r w : ℤ) → inclusive ≡ true → Reaches direction r w → Reaches direction (walk_start direction inclusive r) w
start_at direction true r w e h = h
start_at direction false r w e h = absurd (cc)

-- ---- runs of a second

pub ahead_reaches : (direction : Direction) (inclusive : Bool) (s i : ℤ) → Ahead direction inclusive s i → Reaches direction s i
ahead_reaches direction inclusive s i ahead = elim ahead [ inl lt ↦ omega (arith, ints) | inr (is, e) ↦ reaches-equal direction s i (sym e) ]

first_is_one : (reads : ℤ → ℤ) (w i j : ℤ) → First reads w i → First reads w j → i ≡ j
first_is_one reads w i j a b =
    omega (arith, ints, firsts_in_order Forward reads w w i j (omega (arith, ints)) a b, firsts_in_order Forward reads w w j i (omega (arith, ints)) b a)

pub first_of_one : (reads : ℤ → ℤ) → Calm reads → (w t : ℤ) → Exactly reads w (Single t) → First reads w t
first_of_one reads calm w t (e, only) = first_if_least reads calm w t e (λ j h k. omega (arith, ints, only j k))

pub first_of_two : (reads : ℤ → ℤ) → Calm reads → (w e l : ℤ) → Exactly reads w (Ambiguous e l) → First reads w e
first_of_two reads calm w e l (lt, a, b, only) =
    first_if_least reads calm w e a (λ j h k. elim (only j k) [ inl same ↦ omega (arith, ints) | inr same ↦ omega (arith, ints) ])

-- ---- answers

module _ (direction : Direction) (inclusive : Bool) (job : Job) (calm : Calm job.zone.reads) (s : ℤ) where
  -- what a walk meets, not before its start, lies ahead of it
  ahead_of : (t w : ℤ) → Reaches direction (begun direction inclusive job s) w → job.zone.reads t ≡ w → Reaches direction s t → Ahead direction inclusive s t
  ahead_of t w from e le =
      elim (same_or_ahead direction s t le) [
        | inr lt ↦ inl lt
        | inl same ↦ elim (start_ahead direction inclusive (job.zone.reads s) w from) [
          | inl lt ↦ absurd (omega (arith, ints, reaches-equal direction w (job.zone.reads s) (sym e ∙ ap job.zone.reads (sym same))))
          | inr (is, at) ↦ inr (is, sym same)
        ]
      ]

  -- a run of the second that the walk has come to is its answer, where no run of this second or a later one is nearer
  answer : (w t : ℤ) → Meets direction inclusive job s w → RunOf job w t → Ahead direction inclusive s t
      → ((v i : ℤ) → Reaches direction w v → RunOf job v i → Ahead direction inclusive s i → Reaches direction t i) → WalkedFrom direction inclusive job s t
  answer w t met run ahead nearest = record {
    second = w;
    visited = met.from;
    scheduled = met.own;
    run = run;
    ahead = ahead;
    nearest = λ v i a own of before.
        elim (either direction v w) [ inl lt ↦ absurd (met.none v i a lt own of before) | inr le ↦ nearest v i le of before ];
  }

  -- of an interval job: the nearest instant ahead that reads w
  each_answer : (w t : ℤ) → Meets direction inclusive job s w → job.timetable.fixed_time ≡ false → job.zone.reads t ≡ w → Reaches direction s t
      → ((x : ℤ) → Reaches direction s x → job.zone.reads x ≡ w → Reaches direction t x) → WalkedFrom direction inclusive job s t
  each_answer w t met each e ahead nearest =
      answer w t met (inl (each, e)) (ahead_of t w met.from e ahead)
      (λ v i le of before.
      let f = each_reads job v i each of in
      let at = ahead_reaches direction inclusive s i before in
      let from : Reaches direction (job.zone.reads s) w = omega (arith, ints, met.from, start_near direction inclusive (job.zone.reads s)) in
      elim (same_or_ahead direction w v le) [
        | inl same ↦ nearest i at (f ∙ sym same)
        | inr lt ↦ nearest_in_order direction job.zone.reads calm s w v t i from lt e nearest f at
      ])

  -- of a fixed-time job: the first instant that reads w or more
  first_answer : (w t : ℤ) → Meets direction inclusive job s w → job.timetable.fixed_time ≡ true → First job.zone.reads w t
      → (job.zone.reads t ≡ w) ⊎ job.timetable.date_matches (job.zone.reads t) → Ahead direction inclusive s t → WalkedFrom direction inclusive job s t
  first_answer w t met fixed first date ahead =
      answer w t met (inr (fixed, first, date)) ahead
      (λ v i le of before. firsts_in_order direction job.zone.reads w v t i le first (first_of_run job v i fixed of))

  pub single_answer : (w t : ℤ) → Exactly job.zone.reads w (Single t) → Meets direction inclusive job s w → WalkedFrom direction inclusive job s t
  single_answer w t exact met =
      let from : Reaches direction (job.zone.reads s) w = omega (arith, ints, met.from, start_near direction inclusive (job.zone.reads s)) in
      let ahead = last_is_ahead direction job.zone.reads calm s t w from exact.0 (λ x h. reaches-equal direction x t (exact.1 x h)) in
      elim (true_or_false job.timetable.fixed_time) [
        | inl fixed ↦ first_answer w t met fixed (first_of_one job.zone.reads calm w t exact) (inl exact.0) (ahead_of t w met.from exact.0 ahead)
        | inr each ↦ each_answer w t met each exact.0 ahead (λ x h k. reaches-equal direction t x (sym (exact.1 x k)))
      ]

  -- of two instants that read w the nearer that is not before the start
  nearer_answer : {T : Type 0} (moment : T → Moment) (w : ℤ) (near far t : T) → Meets direction inclusive job s w → job.timetable.fixed_time ≡ false
      → Precedes direction (moment near).instant (moment far).instant → job.zone.reads (moment near).instant ≡ w → job.zone.reads (moment far).instant ≡ w
      → ((x : ℤ) → job.zone.reads x ≡ w → (x ≡ (moment near).instant) ⊎ (x ≡ (moment far).instant))
      → NearerOf moment direction s near far (Some t) → WalkedFrom direction inclusive job s (moment t).instant
  nearer_answer moment w near far t met each order e f only chosen =
      let n = (moment near).instant in
      let l = (moment far).instant in
      let Goal : _ → Type 0 = λ x. WalkedFrom direction inclusive job s (moment x).instant in
      elim chosen [
        | inl (same, ahead) ↦
            subst Goal (sym same) (each_answer w n met each e ahead
            (λ x h k. elim (only x k) [ inl at ↦ reaches-equal direction n x (sym at) | inr at ↦ omega (arith, ints, subst (Precedes direction n) (sym at) order) ]))
        | inr (same, behind, ahead) ↦
            subst Goal (sym same) (each_answer w l met each f ahead
            (λ x h k. elim (only x k) [ inl at ↦ absurd (omega (arith, ints, subst (Reaches direction s) at h)) | inr at ↦ reaches-equal direction l x (sym at) ]))
      ]

  -- the end of the gap in which a fixed-time job's second lies
  pub gap_answer : (w v t : ℤ) → Meets direction inclusive job s w → job.timetable.fixed_time ≡ true → GapEnd job.zone.reads w v t → job.timetable.date_matches v
      → Ahead direction inclusive s t → WalkedFrom direction inclusive job s t
  gap_answer w v t met fixed end date ahead =
      first_answer w t met fixed (first_over_gap job.zone.reads w v t (omega (arith, ints, end.past)) end.first end.unread)
      (inr (subst job.timetable.date_matches (sym end.at) date)) ahead

module _ {T : Type 0} (moment : T → Moment) (inclusive : Bool) (job : Job) (calm : Calm job.zone.reads) (s w : ℤ) (e l : T) (exact : Exactly job.zone.reads w (Ambiguous (moment e).instant (moment l).instant)) where
  -- of a second's two instants the one that the job takes
  pub two_answer : (fixed_time : Bool) (direction : Direction) (t : T) → job.timetable.fixed_time ≡ fixed_time → Meets direction inclusive job s w
      → ChosenOf moment fixed_time direction s e l (Some t) → WalkedFrom direction inclusive job s (moment t).instant
  two_answer true direction t fixed met (same, ahead) =
      subst (λ (x : T). WalkedFrom direction inclusive job s (moment x).instant) (sym same)
      (first_answer direction inclusive job calm s w (moment e).instant met fixed (first_of_two job.zone.reads calm w (moment e).instant (moment l).instant exact) (inl exact.1)
      (ahead_of direction inclusive job calm s (moment e).instant w met.from exact.1 ahead))
  two_answer false Forward t each met chosen = nearer_answer Forward inclusive job calm s moment w e l t met each exact.0 exact.1 exact.2 exact.3 chosen
  two_answer false Backward t each met chosen =
      nearer_answer Backward inclusive job calm s moment w l e t met each (omega (arith, ints, exact.0)) exact.2 exact.1
      (λ x h. elim (exact.3 x h) [ inl at ↦ inr at | inr at ↦ inl at ]) chosen

  -- where it takes none, no run of the second lies ahead
  pub two_past : (fixed_time : Bool) (direction : Direction) → job.timetable.fixed_time ≡ fixed_time → ChosenOf moment fixed_time direction s e l None
      → (i : ℤ) → RunOf job w i → Ahead direction inclusive s i → ⊥
  two_past true direction fixed behind i of ahead =
      let same = first_is_one job.zone.reads w i (moment e).instant (first_of_run job w i fixed of) (first_of_two job.zone.reads calm w (moment e).instant (moment l).instant exact) in
      not_both direction (moment e).instant s behind (subst (Reaches direction s) same (ahead_reaches direction inclusive s i ahead))
  two_past false Forward each (a, b) i of ahead =
      let at = ahead_reaches Forward inclusive s i ahead in
      elim (exact.3 i (each_reads job w i each of)) [ inl same ↦ omega (arith, ints) | inr same ↦ omega (arith, ints) ]
  two_past false Backward each (a, b) i of ahead =
      let at = ahead_reaches Backward inclusive s i ahead in
      elim (exact.3 i (each_reads job w i each of)) [ inl same ↦ omega (arith, ints) | inr same ↦ omega (arith, ints) ]

-- ---- gaps of a fixed-time job

-- what lies from a skipped second up to the far side of its gap, which forward is where it ends, is of the gap
of_gap : (direction : Direction) (reads : ℤ → ℤ) (skipped end side t : ℤ) → (direction ≡ Forward → side ≡ end) → UnreadTo direction reads skipped side
    → GapEnd reads skipped end t → (u : ℤ) → Reaches direction skipped u → Precedes direction u side → (u <ℤ end) × UnreadTo Forward reads u end
of_gap Forward reads skipped end side t ends unread gap u on before =
    let at = ends refl in (omega (arith, ints), λ x from to. gap.unread x (omega (arith, ints)) to)
of_gap Backward reads skipped end side t ends unread gap u on before = (
  omega (arith, ints, gap.past),
  λ x from to. elim (cases_lt_z skipped x) [ inl lt ↦ gap.unread x (omega (arith, ints)) to | inr le ↦ unread x (omega (arith, ints)) (omega (arith, ints)) ],
)

-- so a run of such a second is the gap's end
pub gap_run_is_end : (direction : Direction) (job : Job) (skipped end side t : ℤ) → job.timetable.fixed_time ≡ true → (direction ≡ Forward → side ≡ end)
    → UnreadTo direction job.zone.reads skipped side → GapEnd job.zone.reads skipped end t
    → (u i : ℤ) → Reaches direction skipped u → Precedes direction u side → RunOf job u i → (i ≡ t) × job.timetable.date_matches end
gap_run_is_end direction job skipped end side t fixed ends unread gap u i on before of =
    let (lt, none) = of_gap direction job.zone.reads skipped end side t ends unread gap u on before in
    elim of [
      | inl (each, e) ↦ absurd (cc)
      | inr (f, mine, date) ↦
          let same = first_is_one job.zone.reads u i t mine (first_over_gap job.zone.reads u end t (omega (arith, ints)) gap.first none) in
          elim date [
            | inl e ↦ absurd (none u (omega (arith, ints)) lt i e)
            | inr matches ↦ (same, subst job.timetable.date_matches (ap job.zone.reads same ∙ gap.at) matches)
          ]
    ]

-- ---- how it goes on

-- where an interval job takes none of two instants, or a fixed-time job not the earlier, the earlier lies before the start
one_before : {T : Type 0} (moment : T → Moment) (fixed_time : Bool) (direction : Direction) (s : ℤ) (e l : T) → ChosenOf moment fixed_time direction s e l None
    → Precedes direction (moment e).instant s
one_before moment true direction s e l h = h
one_before moment false Forward s e l h = h.0
one_before moment false Backward s e l h = h.1

-- ---- how far a pass goes

-- past a second that is not read, and past no second that is
onward_across : (direction : Direction) (reads : ℤ → ℤ) (skipped side : ℤ) → Precedes direction skipped side → UnreadTo direction reads skipped side
    → Onward direction reads skipped side
onward_across direction reads skipped side on unread = record {
  on = on;
  within = λ p below above. (
    reaches_unless Forward (reads p) side (λ lt. unread (reads p) (grind (arith, ints)) (grind (arith, ints)) p refl),
    reaches_unless Forward side (reads (p +ℤ pos 1)) (λ lt. unread (reads (p +ℤ pos 1)) (grind (arith, ints)) (grind (arith, ints)) (p +ℤ pos 1) refl),
  );
}

onward_one : (direction : Direction) (reads : ℤ → ℤ) (skipped wall : ℤ) → wall ≡ one_on direction skipped → Exactly reads skipped Gap → Onward direction reads skipped wall
onward_one direction reads skipped wall e unread =
    let one = ap (along direction) e ∙ along-offset direction skipped 1 in
    onward_across direction reads skipped wall (omega (arith, ints)) (λ u on before x at. unread x (at ∙ both_ways direction u skipped (omega (arith, ints)) on))

-- ---- a walk, and its answers

module _ (direction : Direction) (inclusive : Bool) (job : Job) (s : ℤ) (f : ℕ) where
  pub walking_start : (wall : ℤ) → wall ≡ begun direction inclusive job s → Walking direction inclusive job s f wall
  walking_start wall e =
      subst (λ (v : ℤ). Walking direction inclusive job s f v) (sym e)
      (record { reaches = reaches-same direction (begun direction inclusive job s); none = λ calm w i a b own of ahead. omega (arith, ints) })

  -- it goes on to where no run of a scheduled second that it passes lies ahead
  walking_to : (w side : ℤ) → Walking direction inclusive job s f w → Reaches direction w side
      → (IsCalmStart job.zone f → (u i : ℤ) → Reaches direction w u → Precedes direction u side → job.timetable.scheduled u → RunOf job u i → Ahead direction inclusive s i → ⊥)
      → Walking direction inclusive job s f side
  walking_to w side walking on past = record {
    reaches = omega (arith, ints, walking.reaches);
    none = λ start u i a b own of ahead.
        elim (either direction u w) [ inl before ↦ walking.none start u i a before own of ahead | inr from ↦ past start u i from b own of ahead ];
  }

  pub walking_next : (wall next : ℤ) → Walking direction inclusive job s f wall → NextScheduled direction job.timetable.scheduled wall next
      → Walking direction inclusive job s f next
  walking_next wall next walking found = walking_to wall next walking found.on (λ calm u i from b own of ahead. found.none u from b own)

  walking_on : (w moved : ℤ) → Walking direction inclusive job s f w → moved ≡ one_on direction w
      → (IsCalmStart job.zone f → (i : ℤ) → RunOf job w i → Ahead direction inclusive s i → ⊥) → Walking direction inclusive job s f moved
  walking_on w moved walking e past =
      let one = ap (along direction) e ∙ along-offset direction w 1 in
      walking_to w moved walking (omega (arith, ints))
      (λ start u i from b own of ahead. past start i (subst (λ (v : ℤ). RunOf job v i) (both_ways direction u w (omega (arith, ints)) from) of) ahead)

  pub walk_reaches : (wall : ℤ) → Walking direction inclusive job s f wall → Reaches direction (job.zone.reads s) wall
  walk_reaches wall walking = omega (arith, ints, walking.reaches, start_near direction inclusive (job.zone.reads s))

  -- a walk that comes to a scheduled second has something scheduled ahead
  pub something_ahead : (wall : ℤ) → Walking direction inclusive job s f wall → job.timetable.scheduled wall
      → NoneAhead direction inclusive job.timetable.scheduled (job.zone.reads s) → ⊥
  something_ahead wall walking own none = none wall (start_ahead direction inclusive (job.zone.reads s) wall walking.reaches) own

-- in words of the code
module _ {T : Type 0} (moment : T → Moment) (direction : Direction) (inclusive : Bool) (job : Job) (start : Moment) where
  -- the walk has come to this second
  abbrev pub ComesTo : ℤ → Type 0
  ComesTo w = Walking direction inclusive job start.instant start.fraction w

  -- from this second the walk goes on to that one, and is paced
  abbrev pub GoesOn : ℤ → ℤ → Type 0
  GoesOn w wall = ComesTo wall × (IsCalmStart job.zone start.fraction → Paces direction job.zone.reads start.instant w wall)

  meets : (w : ℤ) → ComesTo w → job.timetable.scheduled w → IsCalmStart job.zone start.fraction → Meets direction inclusive job start.instant w
  meets w there own begins = record { from = there.reaches; own = own; none = there.none begins }

  -- an instant that shows the scheduled second
  shown_walked : (w : ℤ) (t : T) → Names moment job.zone w t → job.timetable.scheduled w → ComesTo w
      → (IsCalmStart job.zone start.fraction → WalkedFrom direction inclusive job start.instant (moment t).instant) → IsWalked moment direction inclusive job start t
  shown_walked w t named own there walked = record {
    zone_is = named.zone_is;
    whole = named.whole;
    shows = λ premise. subst job.timetable.scheduled (sym named.reads_it) own;
    ahead = something_ahead direction inclusive job start.instant start.fraction w there own;
    walked = walked;
  }

  pub single_walked : (c : CivilDateTime) (t : T) → Names moment job.zone (wall_second c) t → job.zone.resolves c ≡ Some (Single (moment t).instant)
      → job.timetable.scheduled (wall_second c) → ComesTo (wall_second c) → IsWalked moment direction inclusive job start t
  single_walked c t named is own there =
      shown_walked (wall_second c) t named own there
      (λ begins.
      single_answer direction inclusive job (calm_of job.zone begins.calm) start.instant (wall_second c) (moment t).instant
      (exact_of job.zone begins.calm c (Single (moment t).instant) is) (meets (wall_second c) there own begins))

  module _ (c : CivilDateTime) (e l : T) (named_e : Names moment job.zone (wall_second c) e) (named_l : Names moment job.zone (wall_second c) l) (is : job.zone.resolves c ≡ Some (Ambiguous (moment e).instant (moment l).instant)) (there : ComesTo (wall_second c)) where
    -- of the two instants of a second this one is taken, or none
    abbrev Takes : Option T → Type 0
    Takes chosen =
        start.fraction ≡ 0 → (moment e).fraction ≡ 0 → (moment l).fraction ≡ 0 → ChosenOf moment job.timetable.fixed_time direction start.instant e l chosen

    pub chosen_walked : (t : T) → job.timetable.scheduled (wall_second c) → IsOneOf e l (Some t) → Takes (Some t) → IsWalked moment direction inclusive job start t
    chosen_walked t own one chosen =
        let Named : T → Type 0 = Names moment job.zone (wall_second c) in
        shown_walked (wall_second c) t (elim one [ inl at ↦ subst Named (sym at) named_e | inr at ↦ subst Named (sym at) named_l ]) own there
        (λ begins.
        two_answer moment inclusive job (calm_of job.zone begins.calm) start.instant (wall_second c) e l
        (exact_of job.zone begins.calm c (Ambiguous (moment e).instant (moment l).instant) is) job.timetable.fixed_time direction t refl
        (meets (wall_second c) there own begins) (chosen begins.whole named_e.whole named_l.whole))

    pub past_two : (moved : ℤ) → Takes None → moved ≡ one_on direction (wall_second c) → GoesOn (wall_second c) moved
    past_two moved chosen moves = (
      walking_on direction inclusive job start.instant start.fraction (wall_second c) moved there moves
          (λ begins.
          two_past moment inclusive job (calm_of job.zone begins.calm) start.instant (wall_second c) e l
          (exact_of job.zone begins.calm c (Ambiguous (moment e).instant (moment l).instant) is) job.timetable.fixed_time direction refl
          (chosen begins.whole named_e.whole named_l.whole)),
      λ begins.
          let behind = one_before moment job.timetable.fixed_time direction start.instant e l (chosen begins.whole named_e.whole named_l.whole) in
          inr (moves, ((moment e).instant, named_e.reads_it, behind)),
    )

  -- ---- gaps

  module _ (c : CivilDateTime) (is : job.zone.resolves c ≡ Some Gap) (there : ComesTo (wall_second c)) where
    -- past a gap of an interval job, by one second or to the far side
    pub past_gap_on : (wall : ℤ) → job.timetable.fixed_time ≡ false → GoesPast direction job.zone (wall_second c) wall → GoesOn (wall_second c) wall
    past_gap_on wall each goes =
        elim goes [
          | inl next ↦ (
            walking_on direction inclusive job start.instant start.fraction (wall_second c) wall there next
                (λ begins i of ahead. exact_of job.zone begins.calm c Gap is i (each_reads job (wall_second c) i each of)),
            λ begins. let unread = exact_of job.zone begins.calm c Gap is in inl (unread, onward_one direction job.zone.reads (wall_second c) wall next unread),
          )
          | inr crosses ↦ (
            walking_to direction inclusive job start.instant start.fraction (wall_second c) wall there (omega (arith, ints, crosses.on))
                (λ begins u i from b own of ahead. crosses.unread begins.calm u from b i (each_reads job u i each of)),
            λ begins. inl (exact_of job.zone begins.calm c Gap is, onward_across direction job.zone.reads (wall_second c) wall crosses.on (crosses.unread begins.calm)),
          )
        ]

    module _ (end : CivilDateTime) (t : T) (fixed : job.timetable.fixed_time ≡ true) (found : HasGapEnd moment job.zone (wall_second c) (Some (end, t))) where
      pub carried_walked : job.timetable.scheduled (wall_second c) → job.timetable.date_matches (wall_second end)
          → (start.fraction ≡ 0 → (moment t).fraction ≡ 0 → Ahead direction inclusive start.instant (moment t).instant) → IsWalked moment direction inclusive job start t
      carried_walked own date ahead =
          let (past, zone_is, whole, many, gap_end) = found in
          record {
            zone_is = zone_is;
            whole = whole;
            shows = λ premise. elim premise [ inl each ↦ let never : true ≡ false = sym fixed ∙ each in absurd (cc) | inr single ↦ absurd (many single) ];
            ahead = something_ahead direction inclusive job start.instant start.fraction (wall_second c) there own;
            walked = λ begins.
                gap_answer direction inclusive job (calm_of job.zone begins.calm) start.instant (wall_second c) (wall_second end) (moment t).instant
                (meets (wall_second c) there own begins) fixed (gap_end begins.calm) date (ahead begins.whole whole);
          }

      -- the run at the gap's end is none, or lies before the start
      abbrev pub NotCarried : Type 0
      NotCarried =
          start.fraction ≡ 0 → (moment t).fraction ≡ 0 → job.timetable.date_matches (wall_second end) → Ahead direction inclusive start.instant (moment t).instant → ⊥

      -- past a gap of a fixed-time job to its far side
      past_gap_side : (side : ℤ) → NotCarried → Precedes direction (wall_second c) side → (direction ≡ Forward → side ≡ wall_second end)
          → (IsCalm job.zone → UnreadTo direction job.zone.reads (wall_second c) side) → GoesOn (wall_second c) side
      past_gap_side side refused on ends unread =
          let (past, zone_is, whole, many, gap_end) = found in (
            walking_to direction inclusive job start.instant start.fraction (wall_second c) side there (omega (arith, ints))
                (λ begins u i from b own of ahead.
                let (same, date) = gap_run_is_end direction job (wall_second c) (wall_second end) side (moment t).instant fixed ends (unread begins.calm) (gap_end begins.calm) u i from b of in
                refused begins.whole whole date (subst (Ahead direction inclusive start.instant) same ahead)),
            λ begins. inl (exact_of job.zone begins.calm c Gap is, onward_across direction job.zone.reads (wall_second c) side on (unread begins.calm)),
          )

      pub past_gap_forward : NotCarried → direction ≡ Forward → GoesOn (wall_second c) (wall_second end)
      past_gap_forward refused forward =
          past_gap_side (wall_second end) refused (subst (λ (d : Direction). Precedes d (wall_second c) (wall_second end)) (sym forward) found.0) (λ f. refl)
          (λ calm. subst (λ (d : Direction). UnreadTo d job.zone.reads (wall_second c) (wall_second end)) (sym forward) (found.4 calm).unread)

      pub past_gap_backward : (front : CivilDateTime) → NotCarried → direction ≡ Backward → HasGapFront job.zone (wall_second c) (Some front)
          → GoesOn (wall_second c) (wall_second front)
      past_gap_backward front refused backward (before, gap_front) =
          past_gap_side (wall_second front) refused (subst (λ (d : Direction). Precedes d (wall_second c) (wall_second front)) (sym backward) before) (λ f. absurd (cc))
          (λ calm. subst (λ (d : Direction). UnreadTo d job.zone.reads (wall_second c) (wall_second front)) (sym backward) (gap_front calm).0)

-- ---- what the backend holds

pub can_move : (z : Zone) {T : Type 0} (moment : T → Moment) (direction : Direction) (w : ℤ) (t : T) → IsCalm z → HoldsYears z → IsSearched w → Names moment z w t
    → CannotMove direction (moment t) → ⊥
can_move z moment direction w t calm holds searched named stuck =
    let i = (moment t).instant in
    let d = offset_within direction i 1 in
    let r = steady z.reads (calm_of z calm) i (one_on direction i) (omega (arith, ints)) (omega (arith, ints)) in
    let at = named.reads_it in
    let there = holds.instants (one_on direction i) (omega (arith, ints, searched.0), omega (arith, ints, searched.1)) in
    false≢true (sym (subst (λ (x : Zone). x.holds (one_on direction i) ≡ false) named.zone_is stuck) ∙ there)

-- a scheduled second is not the last one of the calendar
pub searched_not_last : (direction : Direction) (c : CivilDateTime) → IsSearched (wall_second c) → IsLastYear direction c.date.year → ⊥
searched_not_last Forward c searched last = omega (arith, ints, searched.1, last_year_far Forward c last)
searched_not_last Backward c searched last = omega (arith, ints, searched.0, last_year_far Backward c last)

far_none : (direction : Direction) (fixed_time : Bool) (scheduled : ℤ → Type 0) (w from : ℤ) → IsFar direction w → Reaches direction w from
    → NoneScheduled direction fixed_time scheduled from
far_none Forward fixed_time scheduled w from far on = λ v after covered own. omega (arith, ints)
far_none Backward true scheduled w from far on = λ v after covered own. omega (arith, ints)
far_none Backward false scheduled w from far on = λ v after covered own. omega (arith, ints)

-- from the last second of the calendar nothing is left to search
pub out_far : (direction : Direction) (inclusive : Bool) (job : Job) (s : ℤ) (c : CivilDateTime) → IsLastYear direction c.date.year
    → wall_second c ≡ job.zone.reads s → OutFrom direction inclusive job s
out_far direction inclusive job s c last shown =
    let from = begun direction inclusive job s in
    let far = subst (IsFar direction) shown (last_year_far direction c last) in (
      from,
      λ w i a b own of ahead. omega (arith, ints),
      far_none direction job.timetable.fixed_time job.timetable.scheduled (job.zone.reads s) from far (start_near direction inclusive (job.zone.reads s)).0,
    )
