-- The edge between the two halves of a repeated range, and which runs lie in the span of a search.
use Rattle.std.proofs.Common.{◌≡◌, ℕ, ◌+◌, ◌≤◌, ◌<◌, ℤ, pos, ◌*ℤ◌, ◌<ℤ◌, arith, refl, sym, ◌∙◌, inl, inr, ap, subst, Bool, true, false, IsTrue, ◌↔◌, Some, Result, IfOk, not}
use Rattle.std.proofs.lemmas.Bool.{false≢true}
use Rattle.std.proofs.lemmas.Int.{ints}
use Rattle.croner_base.specs.declared.errors.CronError.{CronError}
use Rattle.croner_base.specs.declared.time.civil.CivilDateTime.{CivilDateTime}
use Rattle.croner_base.specs.declared.time.value.Resolution.TheVariants.{Single, Ambiguous, Gap}
use Rattle.croner_base.specs.Calm.{IsCalm, HoldsAround, IsNear}
use Rattle.croner_base.specs.Civil.{wall_second}
use Rattle.croner_base.specs.Limits.{apart_limit}
use Rattle.croner_base.specs.Zone.{Zone, Moment, reading, nanos_of}
use Rattle.croner.specs.search.Limit.{IsWithin, InSpan}
use Rattle.croner.specs.search.Premises.{IsCalmStart, StartsCalm}
use Rattle.croner.specs.Private.search.Halves.{edge_limit, HasTwin, EdgeOf, moment_from, IsEdge}
use Rattle.croner.specs.Private.search.Held.{HoldsSecond}
use Rattle.croner.proofs.zone.Ahead.{Direction, Forward, Backward, opposite_way, along, Precedes, Reaches, offset_from, along-offset, along-opposite, either, offset_within, opposite, opposite-reaches, reaches-equal, reaches-same, same_or_ahead, zero_on}
use Rattle.croner.proofs.zone.ZoneOrder.{Exactly, calm_of, exact_of, Calm, cases_lt_z, put_back, not_twice, steady, edge_breaks, edge_line, past_break, reads_on}

-- ---- the half that an instant is on

twins : (reads : ℤ → ℤ) (i e l : ℤ) → Exactly reads (reads i) (Ambiguous e l) → (i <ℤ l ↔ HasTwin Forward reads i) × ((i <ℤ l → ⊥) ↔ HasTwin Backward reads i)
twins reads i e l (lt, a, b, only) = (
  (λ h. (l, b, h), λ (x, same, past). elim (only x same) [ inl k ↦ omega (arith, ints) | inr k ↦ omega (arith, ints) ]),
  (
    λ n. elim (cases_lt_z i l) [ inl h ↦ absurd (n h) | inr le ↦ (e, a, omega (arith, ints)) ],
    λ (x, same, past) h. elim (only i refl) [ inl j ↦ elim (only x same) [ inl k ↦ omega (arith, ints) | inr k ↦ omega (arith, ints) ] | inr j ↦ omega (arith, ints) ],
  ),
)

-- ---- as the code has them

exactly_here : (z : Zone) (i : ℤ) (c : CivilDateTime) (r : _) → IsCalm z → wall_second c ≡ z.reads i → z.resolves c ≡ Some r → Exactly z.reads (z.reads i) r
exactly_here z i c r calm e is = subst (λ (w : ℤ). Exactly z.reads w r) e (exact_of z calm c r is)

-- a whole second lies where its nanoseconds do
pub along-nanos : (direction : Direction) (m : Moment) → m.fraction ≡ 0 → along direction (nanos_of m) ≡ along direction m.instant *ℤ pos 1_000_000_000
along-nanos direction m whole = grind (arith, ints)

pub order_whole : (direction : Direction) (a b : Moment) → a.fraction ≡ 0 → b.fraction ≡ 0
    → Precedes direction (nanos_of a) (nanos_of b) ↔ Precedes direction a.instant b.instant
order_whole direction a b f g =
    let x = along-nanos direction a f in
    let y = along-nanos direction b g in
    (λ h. omega (arith, ints), λ h. omega (arith, ints))

-- a test turned
not_test : (b : Bool) (P : Type 0) → IsTrue b ↔ P → IsTrue (not b) ↔ (P → ⊥)
not_test true P test = (λ t. absurd (cc), λ n. absurd (n (test.0 refl)))
not_test false P test = (λ t p. false≢true (test.1 p), λ n. refl)

-- the tests of an instant whose second two instants show, by whether it comes before the later, and what the clock says of them
pub test_two : (m l : Moment) (c : CivilDateTime) (e : ℤ) (b : Bool) → wall_second c ≡ reading m → m.zone.resolves c ≡ Some (Ambiguous e l.instant) → l.fraction ≡ 0
    → (IsTrue b ↔ nanos_of m <ℤ nanos_of l) → IsCalmStart m.zone m.fraction
    → (IsTrue b ↔ HasTwin Forward m.zone.reads m.instant) × (IsTrue (not b) ↔ HasTwin Backward m.zone.reads m.instant)
test_two m l c e b at is whole test start =
    let order = order_whole Forward m l start.whole whole in
    let more = not_test b (nanos_of m <ℤ nanos_of l) test in
    let (ahead, behind) = twins m.zone.reads m.instant e l.instant (exactly_here m.zone m.instant c (Ambiguous e l.instant) start.calm at is) in (
      (λ t. ahead.0 (order.0 (test.0 t)), λ h. test.1 (order.1 (ahead.1 h))),
      (λ t. behind.0 (λ lt. more.0 t (order.1 lt)), λ h. more.1 (λ lt. behind.1 h (order.0 lt))),
    )

pub test_one : (direction : Direction) (m : Moment) (c : CivilDateTime) (t : ℤ) → wall_second c ≡ reading m → m.zone.resolves c ≡ Some (Single t)
    → IsCalmStart m.zone m.fraction → IsTrue false ↔ HasTwin direction m.zone.reads m.instant
test_one direction m c t at is start =
    let only = (exactly_here m.zone m.instant c (Single t) start.calm at is).1 in (
      λ f. absurd (false≢true f),
      λ (x, same, past). absurd (omega (arith, ints, reaches-equal direction x m.instant (only x same ∙ sym (only m.instant refl)))),
    )

pub test_gap : (direction : Direction) (m : Moment) (c : CivilDateTime) → wall_second c ≡ reading m → m.zone.resolves c ≡ Some Gap
    → IsCalmStart m.zone m.fraction → IsTrue false ↔ HasTwin direction m.zone.reads m.instant
test_gap direction m c at is start = (λ f. absurd (false≢true f), λ twin. absurd (exactly_here m.zone m.instant c Gap start.calm at is m.instant refl))

-- a test at a moved moment, said of the start's own zone
pub test_moved : (direction : Direction) (m there : Moment) (n : ℕ) (test : Result Bool CronError) → there ≡ moment_from direction m n
    → (IsCalmStart there.zone there.fraction → IfOk test (λ b. IsTrue b ↔ HasTwin direction there.zone.reads there.instant))
    → IsCalmStart m.zone m.fraction → IfOk test (λ b. IsTrue b ↔ HasTwin direction m.zone.reads (offset_from direction m.instant n))
test_moved direction m there n test same found =
    subst (λ (x : Moment). IsCalmStart x.zone x.fraction → IfOk test (λ b. IsTrue b ↔ HasTwin direction x.zone.reads x.instant)) same found

-- ---- what the backend holds near the start

pub holds_there : (direction : Direction) (m : Moment) (n : ℕ) → n ≤ edge_limit → m.zone.holds (offset_from direction m.instant n) ≡ false → HoldsAround m → ⊥
holds_there direction m n h stuck holds =
    let d = offset_within direction m.instant n in
    false≢true (sym stuck ∙ holds.near_instants (offset_from direction m.instant n) (omega (arith, ints), omega (arith, ints)))

pub holds_second_there : (direction : Direction) (m there : Moment) (n : ℕ) → n ≤ edge_limit → there ≡ moment_from direction m n
    → (HoldsSecond there.zone (reading there) → ⊥) → IsCalmStart m.zone m.fraction → HoldsAround m → ⊥
holds_second_there direction m there n h same stuck start holds =
    let d = offset_within direction m.instant n in
    let r = steady m.zone.reads (calm_of m.zone start.calm) m.instant (offset_from direction m.instant n) (omega (arith, ints)) (omega (arith, ints)) in
    subst (λ (x : Moment). HoldsSecond x.zone (reading x) → ⊥) same stuck
    (λ c at. holds.near c (subst (IsNear (reading m)) (sym at) (omega (arith, ints), omega (arith, ints))))

-- ---- the bisection

pub refuted : (P : Type 0) (b : Bool) → b ≡ false → IsTrue b ↔ P → P → ⊥
refuted P b e test p = false≢true (sym e ∙ test.1 p)

-- between these two offsets from s the half that s is on ends
pub record Bisected (direction : Direction) (z : Zone) (s : ℤ) (fraction : ℕ) (inside outside : ℕ) : Type 0 where
  pub ordered : inside < outside
  pub margin : outside ≤ edge_limit
  pub within : IsCalmStart z fraction → HasTwin direction z.reads s → HasTwin direction z.reads (offset_from direction s inside)
  pub beyond : IsCalmStart z fraction → ¬ (HasTwin direction z.reads (offset_from direction s outside))

module _ (direction : Direction) (m : Moment) (b : Bool) where
  -- in a calm zone the test says whether the half reaches to this offset
  abbrev Tests : ℕ → Type 0
  Tests n = IsCalmStart m.zone m.fraction → IsTrue b ↔ HasTwin direction m.zone.reads (offset_from direction m.instant n)

  pub bisect_start : b ≡ false → Tests edge_limit → Bisected direction m.zone m.instant m.fraction 0 edge_limit
  bisect_start e test = record {
    ordered = omega arith;
    margin = omega arith;
    within = λ start twin. subst (HasTwin direction m.zone.reads) (sym (zero_on direction m.instant)) twin;
    beyond = λ start. refuted _ b e (test start);
  }

  pub bisect_out : (inside outside middle : ℕ) → Bisected direction m.zone m.instant m.fraction inside outside → inside < middle → middle < outside
      → b ≡ false → Tests middle → Bisected direction m.zone m.instant m.fraction inside middle
  bisect_out inside outside middle so_far h k e test =
      record { ordered = h; margin = omega (arith, so_far.margin); within = so_far.within; beyond = λ start. refuted _ b e (test start) }

  -- the margin of a day is past the repeated range
  pub none_within : b ≡ true → Tests edge_limit → IsCalmStart m.zone m.fraction → HasTwin direction m.zone.reads m.instant → ⊥
  none_within e test start (x, same, past) =
      let reads = m.zone.reads in
      let calm = calm_of m.zone start.calm in
      let (y, same2, past2) = (test start).0 e in
      let far = offset_from direction m.instant edge_limit in
      let there = along-offset direction m.instant edge_limit in
      let back = reaches-equal direction (reads x) (reads m.instant) same in
      let turn = put_back reads calm direction m.instant x past back in
      not_twice reads calm direction m.instant x far y past back (omega (arith, ints, turn)) past2 (reaches-equal direction (reads y) (reads far) same2) (omega (arith, ints))

pub edge_found : {T : Type 0} (moment : T → Moment) (direction : Direction) (m : Moment) (inside outside : ℕ) (t : T)
    → Bisected direction m.zone m.instant m.fraction inside outside → outside ≤ inside + 1 → moment t ≡ moment_from direction m outside → IsEdge moment direction m (Some t)
edge_found moment direction m inside outside t found close at =
    let e = (moment t).instant in
    let here : e ≡ offset_from direction m.instant outside = ap (λ (x : Moment). x.instant) at in
    let there = ap (along direction) here ∙ along-offset direction m.instant outside in
    let a = found.ordered in
    let n = found.margin in (
      ap (λ (x : Moment). x.zone) at,
      ap (λ (x : Moment). x.fraction) at,
      λ start twin. record {
        from = omega (arith, ints);
        near = omega (arith, ints, along-offset direction m.instant (apart_limit + 1));
        breaks = edge_breaks direction m.zone.reads (calm_of m.zone start.calm) (offset_from direction m.instant inside) e
            (omega (arith, ints, along-offset direction m.instant inside)) (found.within start twin)
            (λ other. found.beyond start (subst (HasTwin direction m.zone.reads) here other));
      },
      (outside, n, here),
    )

-- ---- which runs lie in the span of a search: those that read a year of it, as does the half of a repeated range before them

pub within_less : (direction : Direction) (a b : ℤ) → Reaches direction a b → IsWithin direction b → IsWithin direction a
within_less direction a b h k = grind (arith, ints)

-- on no half that the search meets last
span_alone : (direction : Direction) (reads : ℤ → ℤ) → Calm reads → (i : ℤ) → IsWithin direction (reads i) → (HasTwin (opposite_way direction) reads i → ⊥)
    → InSpan direction reads i
span_alone direction reads calm i within alone = λ j le.
    elim (same_or_ahead direction j i le) [
      | inl at ↦ subst (λ (x : ℤ). IsWithin direction (reads x)) (sym at) within
      | inr before ↦
          let on = reads_on (opposite_way direction) reads calm i j alone (opposite direction j i before) in
          within_less direction (reads j) (reads i) (opposite-reaches direction (reads i) (reads j) (omega (arith, ints))) within
    ]

-- on the half that the search meets last: the nearest instant of the other half
span_across : (direction : Direction) (reads : ℤ → ℤ) → Calm reads → (i e : ℤ) → EdgeOf (opposite_way direction) reads i e
    → IsWithin direction (reads i) → IsWithin direction (reads e) → InSpan direction reads i
span_across direction reads calm i e edge within across = λ j le.
    let back = opposite_way direction in
    let from : Reaches back i j = omega (arith, ints, along-opposite direction i, along-opposite direction j) in
    elim (either back j e) [
      | inl before ↦
          let line = edge_line back reads calm i e i j edge (reaches-same back i) from before in
          within_less direction (reads j) (reads i) (opposite-reaches direction (reads i) (reads j) (omega (arith, ints))) within
      | inr on ↦ within_less direction (reads j) (reads e) (opposite-reaches direction (reads e) (reads j) (past_break reads calm back e j edge.breaks on)) across
    ]

-- what the code's test says of a moment
pub start_within : (direction : Direction) (start : Moment) (b : Bool) (shown : ℤ) → b ≡ true → shown ≡ reading start → (IsTrue b ↔ IsWithin direction shown)
    → IsWithin direction (reading start)
start_within direction start b shown e at test = subst (IsWithin direction) at (test.0 e)

pub start_outside : (direction : Direction) (start : Moment) (b : Bool) (shown : ℤ) → b ≡ false → shown ≡ reading start → (IsTrue b ↔ IsWithin direction shown)
    → IsWithin direction (reading start) → ⊥
start_outside direction start b shown e at test within = false≢true (sym e ∙ test.1 (subst (IsWithin direction) (sym at) within))

module _ (direction : Direction) (m : Moment) where
  pub outside_span : (IsWithin direction (reading m) → ⊥) → IsTrue false ↔ InSpan direction m.zone.reads m.instant
  outside_span late = (λ h. absurd (false≢true h), λ span. absurd (late (span m.instant (reaches-same direction m.instant))))

  pub alone_in_span : (back : Direction) → IsWithin direction (reading m) → back ≡ opposite_way direction → (HasTwin back m.zone.reads m.instant → ⊥) → StartsCalm m
      → IsTrue true ↔ InSpan direction m.zone.reads m.instant
  alone_in_span back within way none calm = (
    λ h. span_alone direction m.zone.reads (calm_of m.zone calm.calm) m.instant within
        (subst (λ (d : Direction). HasTwin d m.zone.reads m.instant → ⊥) way none),
    λ span. refl,
  )

  pub across_in_span : {T : Type 0} (moment : T → Moment) (back : Direction) (edge : T) (c : Bool) (edge_shown : ℤ) → IsWithin direction (reading m)
      → back ≡ opposite_way direction → HasTwin back m.zone.reads m.instant → IsEdge moment back m (Some edge) → edge_shown ≡ reading (moment edge)
      → (IsTrue c ↔ IsWithin direction edge_shown) → StartsCalm m → IsTrue c ↔ InSpan direction m.zone.reads m.instant
  across_in_span moment back edge c edge_shown within way twin (zone_is, fraction_is, edge_of, far) edge_at edge_test calm =
      let e = (moment edge).instant in
      let edge_is = subst (λ (d : Direction). EdgeOf d m.zone.reads m.instant e) way (edge_of calm twin) in
      let there : edge_shown ≡ m.zone.reads e = edge_at ∙ ap (λ (z : Zone). z.reads e) zone_is in (
        λ h. span_across direction m.zone.reads (calm_of m.zone calm.calm) m.instant e edge_is within (subst (IsWithin direction) there (edge_test.0 h)),
        λ span. edge_test.1 (subst (IsWithin direction) (sym there) (span e (opposite-reaches direction m.instant e (omega (arith, ints, edge_is.from))))),
      )
