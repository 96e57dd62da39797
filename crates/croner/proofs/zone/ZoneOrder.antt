-- The order of readings in a calm zone, instants that show the same, and the first instant that shows a wall second or more.
use Rattle.std.proofs.Common.{◌≡◌, ℕ, zero, suc, ◌+◌, ◌-◌, ◌*◌, ◌/◌, ℤ, pos, negsuc, neg_ℤ, ◌+ℤ◌, ◌-ℤ◌, ◌<ℤ◌, ◌≤ℤ◌, ◌⊎◌, arith, ◌∙◌, inl, inr, ap, subst, Some, refl, sym}
use Rattle.std.proofs.lemmas.Int.{ints, by_lt_z}
use borrow.Author.Differences.{up}
use Rattle.croner_base.specs.Limits.{gap_limit, fold_limit, apart_limit}
use Rattle.croner_base.specs.declared.time.civil.CivilDateTime.{CivilDateTime}
use Rattle.croner_base.specs.declared.time.value.Resolution.{Resolution}
use Rattle.croner_base.specs.declared.time.value.Resolution.TheVariants.{Single, Ambiguous, Gap}
use Rattle.croner_base.specs.Civil.{wall_second}
use Rattle.croner_base.specs.Zone.{Zone}
use Rattle.croner_base.specs.Calm.{IsChange, IsCalm, jump}
use Rattle.croner.specs.Private.search.Halves.{Break, BreaksBefore, HasTwin, EdgeOf}
use Rattle.croner.specs.Private.search.Walk.{First}
use Rattle.croner.proofs.zone.Ahead.{Direction, Forward, Backward, along, Precedes, Reaches, either, reaches-same, reaches_unless, precedes_unless, offset_from, one_on, along-offset, along-shift, both_ways}

-- changes are small and far apart
pub record Calm (reads : ℤ → ℤ) : Type 0 where
  pub forth : (p : ℤ) → reads (p +ℤ pos 1) ≤ℤ (reads p +ℤ pos 1 +ℤ pos gap_limit)
  pub back : (p : ℤ) → (reads p +ℤ pos 1) ≤ℤ (reads (p +ℤ pos 1) +ℤ pos fold_limit)
  pub apart : (p q : ℤ) → Break reads p → Break reads q → p <ℤ q → (p +ℤ pos apart_limit) <ℤ q

pub cases_lt_z : (a b : ℤ) → (a <ℤ b) ⊎ (b ≤ℤ a)
cases_lt_z a b = by_lt_z a b (λ h. inl h) (λ h. inr h)

pub same_or_not : (a b : ℤ) → (a ≡ b) ⊎ (a ≡ b → ⊥)
same_or_not a b =
    by_lt_z a b (λ lt. inr (λ (e : a ≡ b). omega (arith, ints)))
    (λ le. by_lt_z b a (λ lt. inr (λ (e : a ≡ b). omega (arith, ints))) (λ ge. inl (omega (arith, ints))))

-- a number from 0 on is its upper part
pub nonnegative : (z : ℤ) → pos 0 ≤ℤ z → z ≡ pos (up z)
nonnegative (pos n) h = omega (arith, ints)
nonnegative (negsuc n) h = absurd (omega (arith, ints))

-- what holds at i, and from each k on the way to the next or else Q does at k, holds at j, or Q does on the way
step_by_step : (P Q : ℤ → Type 0) (n : ℕ) (i j : ℤ) → j ≡ i +ℤ pos n → P i → ((k : ℤ) → P k → P (k +ℤ pos 1) ⊎ Q k)
    → P j ⊎ ((k : ℤ) × (i ≤ℤ k) × (k <ℤ j) × Q k)
step_by_step P Q zero i j at start step = let same : i ≡ j = omega (arith, ints) in inl (subst P same start)
step_by_step P Q (suc n) i j at start step =
    let k : ℤ = j -ℤ pos 1 in
    let next : k +ℤ pos 1 ≡ j = omega (arith, ints) in
    elim (step_by_step P Q n i k (omega (arith, ints)) start step) [
      | inl p ↦ elim (step k p) [ inl there ↦ inl (subst P next there) | inr q ↦ inr (k, omega (arith, ints), omega (arith, ints), q) ]
      | inr (p, low, high, q) ↦ inr (p, low, omega (arith, ints), q)
    ]

-- how far j is above i
distance : (i j : ℤ) → i ≤ℤ j → j ≡ i +ℤ pos (up (j -ℤ i))
distance i j h = omega (arith, ints, nonnegative (j -ℤ i) (omega (arith, ints)))

-- ---- straight lines

-- from i to j the clock goes straight on
abbrev pub IsLine : Direction → (ℤ → ℤ) → ℤ → ℤ → Type 0
IsLine direction reads i j = along direction (reads j) -ℤ along direction (reads i) ≡ along direction j -ℤ along direction i

-- between i and j the clock changes, right before `edge` in the direction, and from i to j it is put back by little
pub record Turned (direction : Direction) (reads : ℤ → ℤ) (i j : ℤ) : Type 0 where
  pub edge : ℤ
  pub low : Precedes direction i edge
  pub high : Reaches direction edge j
  pub breaks : BreaksBefore direction reads edge
  pub little : (along direction (reads i) +ℤ (along direction j -ℤ along direction i)) ≤ℤ (along direction (reads j) +ℤ pos fold_limit)

module _ (reads : ℤ → ℤ) where
  -- a change by the instant right after it
  pub before_next : (p : ℤ) → Break reads p → BreaksBefore Forward reads (p +ℤ pos 1)
  before_next p b = let same : p ≡ p +ℤ pos 1 -ℤ pos 1 = omega (arith, ints) in subst (Break reads) same b

  -- between two instants the clock goes straight on, or it changes
  straight_or_break : (i j : ℤ) → i ≤ℤ j → (reads j ≡ reads i +ℤ (j -ℤ i)) ⊎ ((p : ℤ) × (i ≤ℤ p) × (p <ℤ j) × Break reads p)
  straight_or_break i j h =
      step_by_step (λ k. reads k ≡ reads i +ℤ (k -ℤ i)) (Break reads) (up (j -ℤ i)) i j (distance i j h) (omega (arith, ints))
      (λ k line. elim (same_or_not (reads (k +ℤ pos 1)) (reads k +ℤ pos 1)) [ inl next ↦ inl (omega (arith, ints)) | inr b ↦ inr b ])

  line_or_break : (direction : Direction) (i j : ℤ) → Reaches direction i j
      → IsLine direction reads i j ⊎ ((e : ℤ) × Precedes direction i e × Reaches direction e j × BreaksBefore direction reads e)
  line_or_break Forward i j h =
      elim (straight_or_break i j h) [
        | inl line ↦ inl (omega (arith, ints))
        | inr (p, low, high, b) ↦ inr (p +ℤ pos 1, omega (arith, ints), omega (arith, ints), before_next p b)
      ]
  line_or_break Backward i j h =
      elim (straight_or_break j i (omega (arith, ints))) [
        | inl line ↦ inl (omega (arith, ints))
        | inr (p, low, high, b) ↦ inr (p, omega (arith, ints), omega (arith, ints), b)
      ]

  straight : (direction : Direction) (i j : ℤ) → Reaches direction i j
      → ((e : ℤ) → Precedes direction i e → Reaches direction e j → BreaksBefore direction reads e → ⊥) → IsLine direction reads i j
  straight direction i j h none = elim (line_or_break direction i j h) [ inl line ↦ line | inr (e, low, high, b) ↦ absurd (none e low high b) ]

  -- from an instant that shows less than w to one that shows w or more the clock passes w
  pub crossing : (w i j : ℤ) → i ≤ℤ j → reads i <ℤ w → w ≤ℤ reads j → (p : ℤ) × (reads p <ℤ w) × (w ≤ℤ reads (p +ℤ pos 1))
  crossing w i j h low high =
      elim (step_by_step (λ m. reads m <ℤ w) (λ m. (reads m <ℤ w) × (w ≤ℤ reads (m +ℤ pos 1))) (up (j -ℤ i)) i j (distance i j h) low
      (λ m lt. elim (cases_lt_z (reads (m +ℤ pos 1)) w) [ inl still ↦ inl still | inr reached ↦ inr (lt, reached) ])) [
        | inl lt ↦ absurd (omega (arith, ints))
        | inr (p, from, to, crossed) ↦ (p, crossed.0, crossed.1)
      ]

module _ (reads : ℤ → ℤ) (calm : Calm reads) where
  -- changes lie far apart along each direction
  breaks_apart : (direction : Direction) (d e : ℤ) → BreaksBefore direction reads d → BreaksBefore direction reads e → Precedes direction d e
      → (along direction d +ℤ pos apart_limit) <ℤ along direction e
  breaks_apart Forward d e a b h = omega (arith, ints, calm.apart (d -ℤ pos 1) (e -ℤ pos 1) a b (omega (arith, ints)))
  breaks_apart Backward d e a b h = omega (arith, ints, calm.apart e d b a (omega (arith, ints)))

  -- up to a change the clock goes straight on, and so from right after it
  pub line_before : (direction : Direction) (e i j : ℤ) → BreaksBefore direction reads e → Reaches direction i j → Precedes direction j e
      → along direction e ≤ℤ (along direction i +ℤ pos (apart_limit + 1)) → IsLine direction reads i j
  line_before direction e i j b on before near =
      straight reads direction i j on (λ d low high other. omega (arith, ints, breaks_apart direction d e other b (omega (arith, ints))))

  pub line_past : (direction : Direction) (e i j : ℤ) → BreaksBefore direction reads e → Reaches direction e i → Reaches direction i j
      → along direction j ≤ℤ (along direction e +ℤ pos apart_limit) → IsLine direction reads i j
  line_past direction e i j b from on near =
      straight reads direction i j on (λ d low high other. omega (arith, ints, breaks_apart direction e d b other (omega (arith, ints))))

  -- up to two days apart a change takes the longest step back at most, and gives the longest gap at most
  pub drifts : (i j : ℤ) → i ≤ℤ j → j ≤ℤ (i +ℤ pos apart_limit)
      → ((reads i +ℤ (j -ℤ i)) ≤ℤ (reads j +ℤ pos fold_limit)) × (reads j ≤ℤ (reads i +ℤ (j -ℤ i) +ℤ pos gap_limit))
  drifts i j h near =
      elim (line_or_break reads Forward i j h) [
        | inl line ↦ (omega (arith, ints), omega (arith, ints))
        | inr (e, low, high, b) ↦
            let p : ℤ = e -ℤ pos 1 in
            let here : reads (p +ℤ pos 1) ≡ reads e = ap reads (omega (arith, ints)) in
            let first = line_before Forward e i p b (omega (arith, ints)) (omega (arith, ints)) (omega (arith, ints)) in
            let second = line_past Forward e e j b (omega (arith, ints)) high (omega (arith, ints)) in
            (omega (arith, ints, calm.back p), omega (arith, ints, calm.forth p))
      ]

  -- so what two instants at most two days apart show differs by little more or less
  pub steady : (i j : ℤ) → i ≤ℤ (j +ℤ pos apart_limit) → j ≤ℤ (i +ℤ pos apart_limit)
      → (reads j ≤ℤ (reads i +ℤ (j -ℤ i) +ℤ pos gap_limit)) × ((reads i +ℤ (j -ℤ i)) ≤ℤ (reads j +ℤ pos gap_limit))
  steady i j low high =
      elim (cases_lt_z i j) [
        | inl lt ↦ let d = drifts i j (omega (arith, ints)) high in (omega (arith, ints), omega (arith, ints))
        | inr le ↦ let d = drifts j i le low in (omega (arith, ints), omega (arith, ints))
      ]

  -- in each two days the clock goes on by two days less the longest step back, or more
  pub climbs : (n : ℕ) (i : ℤ) → (reads i +ℤ pos (n * (apart_limit - fold_limit))) ≤ℤ reads (i +ℤ pos (n * apart_limit))
  climbs zero i = let same : reads (i +ℤ pos (0 * apart_limit)) ≡ reads i = ap reads (omega (arith, ints)) in omega (arith, ints)
  climbs (suc n) i =
      omega (arith, ints, climbs n i, drifts (i +ℤ pos (n * apart_limit)) (i +ℤ pos (suc n * apart_limit)) (omega (arith, ints)) (omega (arith, ints)))

  -- beyond the longest step back the readings are in order
  pub far : (i j : ℤ) → (i +ℤ pos fold_limit) <ℤ j → reads i <ℤ reads j
  far i j h =
      let d = distance i j (omega (arith, ints)) in
      let n : ℕ = up (j -ℤ i) / apart_limit in
      omega (arith, ints, climbs n i, drifts (i +ℤ pos (n * apart_limit)) j (omega (arith, ints)) (omega (arith, ints)))

  -- two readings that are not in order lie near
  turns : (direction : Direction) (i j : ℤ) → Reaches direction i j → Reaches direction (reads j) (reads i)
      → (along direction (reads i) +ℤ (along direction j -ℤ along direction i)) ≤ℤ (along direction (reads j) +ℤ pos fold_limit)
  turns Forward i j h le =
      by_lt_z (i +ℤ pos fold_limit) j (λ away. omega (arith, ints, far i j away)) (λ near. (drifts i j h (omega (arith, ints))).0)
  turns Backward i j h le =
      by_lt_z (j +ℤ pos fold_limit) i (λ away. omega (arith, ints, far j i away))
      (λ near. omega (arith, ints, drifts j i (omega (arith, ints)) (omega (arith, ints))))

  -- the clock was put back between them
  pub put_back : (direction : Direction) (i j : ℤ) → Precedes direction i j → Reaches direction (reads j) (reads i) → Turned direction reads i j
  put_back direction i j h le =
      elim (line_or_break reads direction i j (omega (arith, ints))) [
        | inl line ↦ absurd (omega (arith, ints))
        | inr (e, low, high, b) ↦ record { edge = e; low = low; high = high; breaks = b; little = turns direction i j (omega (arith, ints)) le }
      ]

  -- from right after a change on, no reading lies before the first
  pub past_break : (direction : Direction) (e i : ℤ) → BreaksBefore direction reads e → Reaches direction e i → Reaches direction (reads e) (reads i)
  past_break direction e i breaks on =
      reaches_unless direction (reads e) (reads i)
      (λ back.
      let little = turns direction e i on (omega (arith, ints)) in
      omega (arith, ints, line_past direction e e i breaks (reaches-same direction e) on (omega (arith, ints))))

  -- the same, of readings before a change and after it
  pub below_before : (p i : ℤ) → Break reads p → i ≤ℤ p → reads i ≤ℤ reads p
  below_before p i breaks h = omega (arith, ints, past_break Backward p i breaks (omega (arith, ints)))

  pub above_after : (p i : ℤ) → Break reads p → p <ℤ i → reads (p +ℤ pos 1) ≤ℤ reads i
  above_after p i breaks h = past_break Forward (p +ℤ pos 1) i (before_next reads p breaks) (omega (arith, ints))

  -- the clock is not put back from i to j, and again from k to l, so near to each other
  pub not_twice : (direction : Direction) (i j k l : ℤ) → Precedes direction i j → Reaches direction (reads j) (reads i) → Reaches direction j k
      → Precedes direction k l → Reaches direction (reads l) (reads k) → (along direction k +ℤ pos fold_limit) ≤ℤ (along direction i +ℤ pos apart_limit) → ⊥
  not_twice direction i j k l a b c d e near =
      let one = put_back direction i j a b in
      let two = put_back direction k l d e in
      omega (arith, ints, breaks_apart direction one.edge two.edge one.breaks two.breaks (omega (arith, ints, one, two)), one, two)

-- ---- instants that show the same, and the edge of the other half of a repeated range

module _ (direction : Direction) (reads : ℤ → ℤ) (calm : Calm reads) where
  -- of two instants whose readings are not in order: one after them that reads what the second reads
  pub twin_after : (i j : ℤ) → Precedes direction i j → Reaches direction (reads j) (reads i)
      → (x : ℤ) × Reaches direction x i × Reaches direction i (offset_from direction x fold_limit) × (reads x ≡ reads j)
  twin_after i j h le =
      let turn = put_back reads calm direction i j h le in
      let x : ℤ = i +ℤ (reads j -ℤ reads i) in
      let at = along-shift direction i (reads i) (reads j) in
      let line = line_before reads calm direction turn.edge x i turn.breaks (omega (arith, ints)) turn.low (omega (arith, ints, turn)) in
      let far = along-offset direction x fold_limit in
      (x, omega (arith, ints), omega (arith, ints, turn), both_ways direction (reads x) (reads j) (omega (arith, ints)) (omega (arith, ints)))

  -- right after the last instant of the own half, where the next has no other that shows the same ahead, the clock is put back
  pub edge_breaks : (i j : ℤ) → along direction j ≡ along direction i +ℤ pos 1 → HasTwin direction reads i → (HasTwin direction reads j → ⊥)
      → BreaksBefore direction reads j
  edge_breaks i j one (x, same, past) none =
      let shown = ap (along direction) same in
      let turn = put_back reads calm direction i x past (omega (arith, ints)) in
      let y : ℤ = one_on direction x in
      let next = along-offset direction x 1 in
      elim (line_or_break reads direction i j (omega (arith, ints))) [
        | inl line ↦
            let beyond = line_past reads calm direction turn.edge x y turn.breaks turn.high (omega (arith, ints)) (omega (arith, ints, turn)) in
            absurd (none (y, both_ways direction (reads y) (reads j) (omega (arith, ints)) (omega (arith, ints)), omega (arith, ints)))
        | inr (e, low, high, breaks) ↦ subst (BreaksBefore direction reads) (both_ways direction e j high (omega (arith, ints))) breaks
      ]

  -- up to the edge of the other half the clock goes straight on
  pub edge_line : (s e i j : ℤ) → EdgeOf direction reads s e → Reaches direction s i → Reaches direction i j → Precedes direction j e
      → IsLine direction reads i j
  edge_line s e i j edge from on before =
      line_before reads calm direction e i j edge.breaks on before (omega (arith, ints, edge.near, along-offset direction s (apart_limit + 1)))

-- one ahead of them that reads what the first reads
twin_ahead : (direction : Direction) (reads : ℤ → ℤ) → Calm reads → (i j : ℤ) → Precedes direction i j → Reaches direction (reads j) (reads i)
    → (x : ℤ) × Reaches direction j x × (reads x ≡ reads i)
twin_ahead direction reads calm i j h le =
    let turn = put_back reads calm direction i j h le in
    let x : ℤ = j +ℤ (reads i -ℤ reads j) in
    let at = along-shift direction j (reads j) (reads i) in
    let line = line_past reads calm direction turn.edge j x turn.breaks turn.high (omega (arith, ints)) (omega (arith, ints, turn)) in
    (x, omega (arith, ints), both_ways direction (reads x) (reads i) (omega (arith, ints)) (omega (arith, ints)))

-- ---- the first instant that reads w or more

pub first_if_least : (reads : ℤ → ℤ) → Calm reads → (w t : ℤ) → reads t ≡ w → ((j : ℤ) → j <ℤ t → reads j ≡ w → ⊥) → First reads w t
first_if_least reads calm w t e least = record {
  reached = omega (arith, ints);
  before = λ j h. precedes_unless Forward (reads j) w (λ le.
      let (x, at_most, near, same) = twin_after Forward reads calm j t h (omega (arith, ints)) in least x (omega (arith, ints)) (same ∙ e));
}

pub firsts_in_order : (direction : Direction) (reads : ℤ → ℤ) (w v i j : ℤ) → Reaches direction w v → First reads w i → First reads v j → Reaches direction i j
firsts_in_order Forward reads w v i j h a b = reaches_unless Forward i j (λ lt. omega (arith, ints, a.before j lt, b.reached))
firsts_in_order Backward reads w v i j h a b = reaches_unless Backward i j (λ lt. omega (arith, ints, b.before i (omega (arith, ints)), a.reached))

-- wall seconds that nothing reads have the first instant of the next that is read
pub first_over_gap : (reads : ℤ → ℤ) (w v t : ℤ) → w ≤ℤ v → First reads v t → ((u : ℤ) → w ≤ℤ u → u <ℤ v → (j : ℤ) → reads j ≡ u → ⊥) → First reads w t
first_over_gap reads w v t h a unread =
    record { reached = omega (arith, ints, a.reached); before = λ j k. precedes_unless Forward (reads j) w (λ le. unread (reads j) le (a.before j k) j refl) }

-- ---- what lies ahead

module _ (direction : Direction) (reads : ℤ → ℤ) (calm : Calm reads) where
  -- where nothing ahead reads what s reads, what lies ahead reads more than s
  pub reads_on : (s i : ℤ) → (HasTwin direction reads s → ⊥) → Precedes direction s i → Precedes direction (reads s) (reads i)
  reads_on s i none past =
      precedes_unless direction (reads s) (reads i)
      (λ back. let (x, on, same) = twin_ahead direction reads calm s i past back in none (x, same, omega (arith, ints)))

  -- what a walk meets never lies before the start, where it is the last in the direction that reads the second
  pub last_is_ahead : (s t w : ℤ) → Reaches direction (reads s) w → reads t ≡ w → ((x : ℤ) → reads x ≡ w → Reaches direction x t) → Reaches direction s t
  last_is_ahead s t w h e last =
      reaches_unless direction s t
      (λ before.
      let (x, past, same) = twin_ahead direction reads calm t s before (subst (Reaches direction (reads s)) (sym e) h) in
      omega (arith, ints, last x (same ∙ e)))

  -- the seconds of an interval job in order have their nearest instants in order
  pub nearest_in_order : (s w v t j : ℤ) → Reaches direction (reads s) w → Precedes direction w v → reads t ≡ w
      → ((x : ℤ) → Reaches direction s x → reads x ≡ w → Reaches direction t x) → reads j ≡ v → Reaches direction s j → Reaches direction t j
  nearest_in_order s w v t j from before e nearest f on =
      reaches_unless direction t j
      (λ under.
      let back : Reaches direction (reads t) (reads j) = rw (e, f) (omega (arith, ints)) in
      let (x, behind, near, same) = twin_after direction reads calm j t under back in
      elim (either direction x s) [
        | inl past ↦ not_twice reads calm direction x s j t past (rw (same, e) from) on under back (omega (arith, ints, along-offset direction x fold_limit))
        | inr ahead ↦ omega (arith, ints, nearest x ahead (same ∙ e))
      ])

-- ---- the zone of a backend: a change by the last instant before it

-- these are exactly the instants that show w, in order
abbrev pub Exactly : (ℤ → ℤ) → ℤ → Resolution ℤ → Type 0
Exactly reads w (Single t) = (reads t ≡ w) × ((x : ℤ) → reads x ≡ w → x ≡ t)
Exactly reads w (Ambiguous e l) = (e <ℤ l) × (reads e ≡ w) × (reads l ≡ w) × ((x : ℤ) → reads x ≡ w → (x ≡ e) ⊎ (x ≡ l))
Exactly reads w Gap = (x : ℤ) → reads x ≡ w → ⊥

pub exact_of : (z : Zone) → IsCalm z → (c : CivilDateTime) (r : Resolution ℤ) → z.resolves c ≡ Some r → Exactly z.reads (wall_second c) r
exact_of z calm c (Single t) e = let named = calm.exact c (Single t) e in ((named t).1 refl, λ x h. (named x).0 h)
exact_of z calm c (Ambiguous a b) e =
    let (lt, named) = calm.exact c (Ambiguous a b) e in (lt, (named a).1 (inl refl), (named b).1 (inr refl), λ x h. (named x).0 h)
exact_of z calm c Gap e = calm.exact c Gap e

-- one on and one back
pub there_and_back : (reads : ℤ → ℤ) (p : ℤ) → reads (p +ℤ pos 1 -ℤ pos 1) ≡ reads p
there_and_back reads p = ap reads (omega (arith, ints))

pub change_of_break : (z : Zone) (p : ℤ) → Break z.reads p → IsChange z (p +ℤ pos 1)
change_of_break z p breaks =
    λ (e : z.reads (p +ℤ pos 1) ≡ z.reads (p +ℤ pos 1 -ℤ pos 1) +ℤ pos 1). breaks (omega (arith, ints, there_and_back z.reads p))

-- how far the clock can jump
jumps : (z : Zone) → IsCalm z → (d : ℤ) → (neg_ℤ (pos fold_limit) ≤ℤ jump z d) × (jump z d ≤ℤ pos gap_limit)
jumps z calm d =
    elim (same_or_not (z.reads d) (z.reads (d -ℤ pos 1) +ℤ pos 1)) [ inl e ↦ (omega (arith, ints), omega (arith, ints)) | inr breaks ↦ calm.small d breaks ]

pub calm_of : (z : Zone) → IsCalm z → Calm z.reads
calm_of z calm = record {
  forth = λ p. omega (arith, ints, jumps z calm (p +ℤ pos 1), there_and_back z.reads p);
  back = λ p. omega (arith, ints, jumps z calm (p +ℤ pos 1), there_and_back z.reads p);
  apart = λ p q a b h. omega (arith, ints, calm.apart (p +ℤ pos 1) (q +ℤ pos 1) (change_of_break z p a) (change_of_break z q b) (omega (arith, ints)));
}
