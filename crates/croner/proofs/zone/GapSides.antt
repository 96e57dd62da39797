-- Gaps: the search for their two sides, and how many passes a walk can take, in gaps and in one repeated range.
use Rattle.std.proofs.Common.{◌≡◌, ℕ, zero, suc, ◌-◌, ◌*◌, ◌+◌, ◌≤◌, ◌<◌, ℤ, pos, ◌+ℤ◌, ◌-ℤ◌, ◌<ℤ◌, ◌≤ℤ◌, negsuc, ◌⊎◌, arith, refl, sym, ◌∙◌, inl, inr, ap, subst, Bool, Option, Some, None, Ok, Err, List, [], ◌∷◌, ◌++◌, int_lt, if◌then◌else◌, unsigned_abs, true}
use Rattle.std.proofs.lemmas.Int.{ints}
use Rattle.std.specs.List.{All}
use Rattle.std.proofs.lemmas.List.Elements.{All-nil, All-cons, All-head, All-tail, All-append, All-weaker}
use borrow.Author.Differences.{up}
use Rattle.croner_base.specs.declared.time.civil.CivilDateTime.{CivilDateTime}
use Rattle.croner_base.specs.declared.time.value.Resolution.TheVariants.{Single, Ambiguous, Gap}
use Rattle.croner_base.specs.declared.errors.CronError.{CronError}
use Rattle.croner_base.specs.Civil.{wall_second}
use Rattle.croner_base.specs.Zone.{Zone, Moment, Names, IsResolved}
use Rattle.croner_base.specs.Calm.{IsCalm, IsSearched, IsMet, Rises, gap_seconds, jump}
use Rattle.croner_base.specs.Limits.{gap_limit, fold_limit, apart_limit, first_searched}
use Rattle.croner.specs.Private.search.Held.{HoldsYears, IsBackendError}
use Rattle.croner.specs.search.Limit.{IsWithin}
use Rattle.croner.specs.declared.search.gap.Around.{Around}
use Rattle.croner.specs.Private.search.Gaps.{IsSkipped, IsFirstShown, IsBeyond, IsAround, HasGapSide, CrossesGap}
use Rattle.croner.specs.Private.search.Halves.{Break}
use Rattle.croner.specs.Private.search.Walk.{First, UnreadTo, HasGapEnd, HasGapFront, pass_limit, Onward, Paces}
use Rattle.croner.proofs.zone.Ahead.{Direction, Forward, Backward, along, Precedes, Reaches, offset_from, along-offset, one_on, both_next, either, same_or_ahead, precedes_unless}
use Rattle.croner.proofs.zone.ZoneOrder.{Exactly, calm_of, exact_of, Calm, cases_lt_z, climbs, crossing, before_next, line_past, below_before, above_after, change_of_break, nonnegative, put_back, there_and_back}
use Rattle.croner.proofs.zone.Walks.{first_of_one, first_of_two}

-- ---- each wall second is passed somewhere

up_above : (z : ℤ) → z ≤ℤ pos (up z)
up_above (pos n) = omega (arith, ints)
up_above (negsuc n) = omega (arith, ints)

-- a second that nothing reads lies in a gap: far enough back the clock shows less, and far enough on more
pub unread_is_in_gap : (reads : ℤ → ℤ) → Calm reads → (w : ℤ) → Exactly reads w Gap → (p : ℤ) × (reads p <ℤ w) × (w <ℤ reads (p +ℤ pos 1))
unread_is_in_gap reads calm w none =
    let under : ℕ = up (reads (pos 0) -ℤ w) + 1 in
    let over : ℕ = up (w -ℤ reads (pos 0)) in
    let i : ℤ = pos 0 -ℤ pos (under * apart_limit) in
    let same : reads (i +ℤ pos (under * apart_limit)) ≡ reads (pos 0) = ap reads (omega (arith, ints)) in
    let low : reads i <ℤ w = omega (arith, ints, climbs reads calm under i, up_above (reads (pos 0) -ℤ w)) in
    let high : w ≤ℤ reads (pos 0 +ℤ pos (over * apart_limit)) = omega (arith, ints, climbs reads calm over (pos 0), up_above (w -ℤ reads (pos 0))) in
    let (p, lt, reached) = crossing reads w i (pos 0 +ℤ pos (over * apart_limit)) (omega (arith, ints)) low high in
    (p, lt, precedes_unless Forward w (reads (p +ℤ pos 1)) (λ le. none (p +ℤ pos 1) (omega (arith, ints))))

-- ---- one gap

module _ (reads : ℤ → ℤ) (calm : Calm reads) where
  -- two seconds that are never read, at most two days apart, lie in one gap: nothing between them is read
  one_gap : (w v : ℤ) → Exactly reads w Gap → Exactly reads v Gap → v ≤ℤ (w +ℤ pos apart_limit) → (u : ℤ) → w ≤ℤ u → u ≤ℤ v → (x : ℤ) → reads x ≡ u → ⊥
  one_gap w v none none2 near u from to x e =
      let (p, below, above) = unread_is_in_gap reads calm w none in
      let breaks : Break reads p = λ (same : reads (p +ℤ pos 1) ≡ reads p +ℤ pos 1). omega (arith, ints) in
      let past : p <ℤ x = precedes_unless Forward p x (λ le. omega (arith, ints, below_before reads calm p x breaks le)) in
      let on = above_after reads calm p x breaks past in
      let q : ℤ = p +ℤ pos 1 in
      let k : ℤ = q +ℤ (v -ℤ reads q) in
      let line = line_past reads calm Forward q q k (before_next reads p breaks) (omega (arith, ints)) (omega (arith, ints)) (omega (arith, ints)) in
      none2 k (omega (arith, ints))

  -- so between a second in a gap and the first in the direction that is read, nothing is
  side_unread : (direction : Direction) (skipped : ℤ) (inside : ℕ) → Exactly reads skipped Gap → Exactly reads (offset_from direction skipped inside) Gap
      → inside < gap_limit → UnreadTo direction reads skipped (offset_from direction skipped (inside + 1))
  side_unread Forward skipped inside none none2 near =
      λ u from to x e. one_gap skipped (skipped +ℤ pos inside) none none2 (omega (arith, ints)) u from (omega (arith, ints)) x e
  side_unread Backward skipped inside none none2 near =
      λ u from to x e. one_gap (skipped -ℤ pos inside) skipped none2 none (omega (arith, ints)) u (omega (arith, ints)) (omega (arith, ints)) x e

  -- and the second at the limit of the search lies in the gap no more
  side_ends : (direction : Direction) (skipped : ℤ) → Exactly reads skipped Gap → Exactly reads (offset_from direction skipped gap_limit) Gap → ⊥
  side_ends Forward skipped none none2 =
      let (p, below, above) = unread_is_in_gap reads calm skipped none in
      one_gap skipped (skipped +ℤ pos gap_limit) none none2 (omega (arith, ints)) _ (omega (arith, ints)) (omega (arith, ints, calm.forth p)) (p +ℤ pos 1) refl
  side_ends Backward skipped none none2 =
      let (p, below, above) = unread_is_in_gap reads calm skipped none in
      one_gap (skipped -ℤ pos gap_limit) skipped none2 none (omega (arith, ints)) _ (omega (arith, ints, calm.forth p)) (omega (arith, ints)) p refl

-- ---- what the backend answers

pub next_skipped : (z : Zone) (w : ℤ) (c : CivilDateTime) → wall_second c ≡ w → z.resolves c ≡ Some Gap → IsSkipped z w
next_skipped z w c at named = λ calm x e. exact_of z calm c Gap named x (e ∙ sym at)

module _ {T : Type 0} (moment : T → Moment) (z : Zone) (c : CivilDateTime) where
  shown : (t : T) → Names moment z (wall_second c) t → (IsCalm z → First z.reads (wall_second c) (moment t).instant) → IsFirstShown moment z (c, t)
  shown t names first = record { zone_is = names.zone_is; whole = names.whole; first = first; at = λ calm. names.reads_it }

  pub shown_one : (t : T) → IsResolved moment z c (Single t) → IsFirstShown moment z (c, t)
  shown_one t (names, named) = shown t names (λ calm. first_of_one z.reads (calm_of z calm) _ _ (exact_of z calm c (Single (moment t).instant) named))

  pub shown_two : (t l : T) → IsResolved moment z c (Ambiguous t l) → IsFirstShown moment z (c, t)
  shown_two t l (names, later, order, named) =
      shown t names (λ calm. first_of_two z.reads (calm_of z calm) _ _ _ (exact_of z calm c (Ambiguous (moment t).instant (moment l).instant) named))

-- ---- the side of the gap

module _ {T : Type 0} (moment : T → Moment) (lack : Bool) (direction : Direction) (z : Zone) (skipped : CivilDateTime) (named : z.resolves skipped ≡ Some Gap) where
  pub side_found : (limit : ℕ) (around : Around T) (found : CivilDateTime × T) → IsAround moment lack direction z (wall_second skipped) around
      → around.outside ≤ around.inside + 1 → around.answer ≡ Ok found → HasGapSide moment direction limit z (wall_second skipped) (Some found)
  side_found limit around found is tight answered =
      let w = wall_second skipped in
      let outside : around.outside ≡ around.inside + 1 = omega (arith, is.ordered) in
      let (at, shown) = subst (IsBeyond moment lack z (offset_from direction w around.outside)) answered is.beyond in
      let next = sym (at ∙ ap (offset_from direction w) outside) in (
        omega (arith, ints, ap (along direction) at, along-offset direction w around.outside),
        shown,
        λ calm.
            let none = side_unread z.reads (calm_of z calm) direction w around.inside (exact_of z calm skipped Gap named) (is.skipped calm) (omega (arith, is.near)) in
            subst (UnreadTo direction z.reads w) next none,
      )

  pub side_refused : (around : Around T) (e : CronError) → IsAround moment lack direction z (wall_second skipped) around → around.answer ≡ Err e
      → IsBackendError lack (HoldsYears z → ⊥) e
  side_refused around e is answered = subst (IsBeyond moment lack z (offset_from direction (wall_second skipped) around.outside)) answered is.beyond

  pub side_out : IsSkipped z (offset_from direction (wall_second skipped) gap_limit) → IsCalm z → ⊥
  side_out out calm = side_ends z.reads (calm_of z calm) direction (wall_second skipped) (exact_of z calm skipped Gap named) (out calm)

  pub gap_front_of : (found : CivilDateTime × T) → HasGapSide moment Backward gap_limit z (wall_second skipped) (Some found)
      → HasGapFront z (wall_second skipped) (Some found.0)
  gap_front_of found (before, shown, unread) = (before, λ calm. (unread calm, ((moment found.1).instant, shown.at calm)))

-- from the skipped second to the side that is found, where both lie in the years that are searched whole
pub crosses_gap : {T : Type 0} (moment : T → Moment) (direction : Direction) (limit : ℕ) (z : Zone) (skipped : ℤ) (found : CivilDateTime × T)
    → HasGapSide moment direction limit z skipped (Some found) → IsWithin direction skipped → IsWithin direction (wall_second found.0)
    → CrossesGap direction z skipped (wall_second found.0)
crosses_gap moment direction limit z skipped found (past, shown, unread) from to =
    record { on = past; from = from; to = to; unread = unread; reached = λ calm. ((moment found.1).instant, shown.at calm) }

-- what is found forward is the gap's end
pub gap_end_or_none : {T : Type 0} (moment : T → Moment) (lack : Bool) (z : Zone) (skipped : CivilDateTime) → z.resolves skipped ≡ Some Gap
    → (found : Option (CivilDateTime × T)) → HasGapSide moment Forward gap_limit z (wall_second skipped) found → HasGapEnd moment z (wall_second skipped) found
gap_end_or_none moment lack z skipped named None out = side_out moment lack Forward z skipped named out
gap_end_or_none moment lack z skipped named (Some found) (past, shown, unread) = (
  past,
  shown.zone_is,
  shown.whole,
  λ each. let (i, single) = each skipped (rw named refl) in let never : Some Gap ≡ Some (Single i) = sym named ∙ single in cc,
  λ calm. record { past = past; unread = unread calm; first = shown.first calm; at = shown.at calm },
)

-- ---- the count of passes

-- how far it is from one wall second to another in the direction
abbrev way : Direction → ℤ → ℤ → ℤ
way direction from to = along direction to -ℤ along direction from

-- what the clock shows at the far side of the change after q
abbrev pub far_side : Direction → (ℤ → ℤ) → ℤ → ℤ
far_side Forward reads q = reads (q +ℤ pos 1)
far_side Backward reads q = reads q

-- the count of a walk from s that has made k passes and stands at `wall`. It was in gaps that end at these changes, and may make `rest`
-- passes more in the last of them. Whatever gap lies ahead is this one, or comes after them all
pub record Paced (direction : Direction) (z : Zone) (s wall : ℤ) (k : ℕ) : Type 0 where
  pub gaps : List ℤ
  pub met : Rises gaps × All (IsMet z) gaps
  pub rest : ℕ
  pub room : (q : ℤ) → Precedes direction wall (far_side direction z.reads q)
      → All (λ d. Precedes direction d (q +ℤ pos 1)) gaps ⊎ (up (way direction wall (far_side direction z.reads q)) ≤ rest)
  pub few : k + rest ≤ gap_seconds z gaps + fold_limit
  pub counted : k + rest ≤ gap_seconds z gaps + up (way direction (z.reads s) wall)

up_less : (a b : ℤ) → a ≤ℤ b → up a ≤ up b
up_less (pos a) (pos b) h = omega (arith, ints)
up_less (pos a) (negsuc b) h = omega (arith, ints)
up_less (negsuc a) b h = omega arith

up_more : (a b : ℤ) → pos 0 ≤ℤ a → (a +ℤ pos 1) ≤ℤ b → up a + 1 ≤ up b
up_more a b h more = omega (arith, ints, nonnegative a h, nonnegative b (omega (arith, ints)))

-- ---- the list of changes

-- one more, which comes after the others in the direction
abbrev added : Direction → ℤ → List ℤ → List ℤ
added Forward d ds = ds ++ (d ∷ [])
added Backward d ds = d ∷ ds

all_added : (direction : Direction) (P : ℤ → Type 0) (d : ℤ) (ds : List ℤ) → P d → All P ds → All P (added direction d ds)
all_added Forward P d ds h all = All-append P ds (d ∷ []) all (All-cons P d [] h (All-nil P))
all_added Backward P d ds h all = All-cons P d ds h all

rises_added : (direction : Direction) (d : ℤ) (ds : List ℤ) → Rises ds → All (λ e. Precedes direction e d) ds → Rises (added direction d ds)
rises_added Forward d [] rises before = (All-nil (λ e. d <ℤ e), tt)
rises_added Forward d (x ∷ xs) (first, rises) before = (
  all_added Forward (λ e. x <ℤ e) d xs (All-head (λ e. e <ℤ d) x xs before) first,
  rises_added Forward d xs rises (All-tail (λ e. e <ℤ d) x xs before),
)
rises_added Backward d ds rises before = (All-weaker (λ e. Precedes Backward e d) (λ e. d <ℤ e) (λ e lt. omega (arith, ints)) ds before, rises)

seconds_added : (z : Zone) (direction : Direction) (d : ℤ) (ds : List ℤ) → gap_seconds z (added direction d ds) ≡ gap_seconds z (d ∷ []) + gap_seconds z ds
seconds_added z Backward d ds = omega arith
seconds_added z Forward d [] = omega arith
seconds_added z Forward d (x ∷ xs) = omega (arith, seconds_added z Forward d xs)

gap_of : (j : ℤ) → up j ≤ (if int_lt (pos 0) j then unsigned_abs j else 0)
gap_of (pos zero) = omega arith
gap_of (pos (suc n)) = let test : int_lt (pos 0) (pos (suc n)) ≡ true = grind (arith, ints) in rw test (omega (arith, ints))
gap_of (negsuc n) = omega arith

own_seconds : (z : Zone) (q : ℤ) → up (z.reads (q +ℤ pos 1) -ℤ z.reads q -ℤ pos 1) ≤ gap_seconds z ((q +ℤ pos 1) ∷ [])
own_seconds z q =
    let same = ap (λ (r : ℤ). up (z.reads (q +ℤ pos 1) -ℤ r -ℤ pos 1)) (there_and_back z.reads q) in
    omega (arith, gap_of (jump z (q +ℤ pos 1)), same)

-- ---- one gap

-- w lies in the gap after q
abbrev IsIn : (ℤ → ℤ) → ℤ → ℤ → Type 0
IsIn reads q w = (reads q <ℤ w) × (w <ℤ reads (q +ℤ pos 1))

in_breaks : (reads : ℤ → ℤ) (q w : ℤ) → IsIn reads q w → Break reads q
in_breaks reads q w (below, above) = λ (e : reads (q +ℤ pos 1) ≡ reads q +ℤ pos 1). omega (arith, ints)

-- what comes before it ends before w
before_gap : (direction : Direction) (reads : ℤ → ℤ) → Calm reads → (p q w : ℤ) → IsIn reads q w → Precedes direction p q → Precedes direction (far_side direction reads p) w
before_gap Forward reads calm p q w inside before =
    omega (arith, ints, inside, below_before reads calm q (p +ℤ pos 1) (in_breaks reads q w inside) (omega (arith, ints)))
before_gap Backward reads calm p q w inside before =
    omega (arith, ints, inside, above_after reads calm q p (in_breaks reads q w inside) (omega (arith, ints)))

-- from w the far side lies ahead, no further than the gap is wide, and a pass goes not past it
in_gap : (direction : Direction) (reads : ℤ → ℤ) (q w next : ℤ) → IsIn reads q w → Onward direction reads w next
    → Precedes direction w (far_side direction reads q) × Reaches direction next (far_side direction reads q)
    × (way direction w (far_side direction reads q) ≤ℤ (reads (q +ℤ pos 1) -ℤ reads q -ℤ pos 1))
in_gap Forward reads q w next (below, above) onward = (above, (onward.within q below above).1, omega (arith, ints))
in_gap Backward reads q w next (below, above) onward = (omega (arith, ints), omega (arith, ints, (onward.within q below above).0), omega (arith, ints))

is_met : (z : Zone) → Calm z.reads → (q w : ℤ) → IsIn z.reads q w → IsSearched w → IsMet z (q +ℤ pos 1)
is_met z calm q w (below, above) (low, high) =
    let back = there_and_back z.reads q in
    let small = calm.forth q in (
      change_of_break z q (in_breaks z.reads q w (below, above)),
      elim (cases_lt_z (z.reads q) first_searched) [
        | inr le ↦ inr (omega (arith, ints), omega (arith, ints))
        | inl lt ↦ inl (omega (arith, ints), omega (arith, ints))
      ],
    )

-- ---- the count goes on

pub paced_start : (direction : Direction) (z : Zone) (s wall : ℤ) → Paced direction z s wall 0
paced_start direction z s wall = record {
  gaps = [];
  met = (tt, All-nil (IsMet z));
  rest = 0;
  room = λ q ahead. inl (All-nil (λ d. Precedes direction d (q +ℤ pos 1)));
  few = omega arith;
  counted = omega arith;
}

module _ (direction : Direction) (z : Zone) (is_calm : IsCalm z) (s wall w next : ℤ) (k : ℕ) (paced : Paced direction z s wall k) (on : Reaches direction wall w) where
  -- with no gap more
  paced_by : Precedes direction w next → k + 1 + (paced.rest - 1) ≤ gap_seconds z paced.gaps + fold_limit
      → k + 1 + (paced.rest - 1) ≤ gap_seconds z paced.gaps + up (way direction (z.reads s) next) → Paced direction z s next (k + 1)
  paced_by further few counted = record {
    gaps = paced.gaps;
    met = paced.met;
    rest = paced.rest - 1;
    room = λ p past. elim (paced.room p (omega (arith, ints))) [
      | inl all ↦ inl all
      | inr le ↦
          let far : ℤ = far_side direction z.reads p in
          inr (omega (arith, up_more (way direction next far) (way direction wall far) (omega (arith, ints)) (omega (arith, ints))))
    ];
    few = few;
    counted = counted;
  }

  -- a pass in a gap, which moves on by a second or more and not past the gap's far side
  paced_gap : Exactly z.reads w Gap → IsSearched w → Onward direction z.reads w next → Paced direction z s next (k + 1)
  paced_gap unread years onward =
      let calm = calm_of z is_calm in
      let (q, below, above) = unread_is_in_gap z.reads calm w unread in
      let inside : IsIn z.reads q w = (below, above) in
      let (ahead, high, skips) = in_gap direction z.reads q w next inside onward in
      let far : ℤ = far_side direction z.reads q in
      let further = onward.on in
      let more = up_less (way direction (z.reads s) wall) (way direction (z.reads s) next) (omega (arith, ints)) in
      elim (paced.room q (omega (arith, ints))) [
        | inr last ↦
            let left = up_more (way direction next far) (way direction wall far) (omega (arith, ints)) (omega (arith, ints)) in
            paced_by further (omega (arith, paced.few)) (omega (arith, paced.counted))
        | inl all ↦
            let less = up_more (way direction next far) (z.reads (q +ℤ pos 1) -ℤ z.reads q -ℤ pos 1) (omega (arith, ints)) (omega (arith, ints)) in
            let own = own_seconds z q in
            let sum = seconds_added z direction (q +ℤ pos 1) paced.gaps in
            record {
              gaps = added direction (q +ℤ pos 1) paced.gaps;
              met = (
                rises_added direction (q +ℤ pos 1) paced.gaps paced.met.0 all,
                all_added direction (IsMet z) (q +ℤ pos 1) paced.gaps (is_met z calm q w inside years) paced.met.1,
              );
              rest = up (way direction next far);
              room = λ p past. elim (either direction p q) [
                | inl before ↦ absurd (omega (arith, ints, before_gap direction z.reads calm p q w inside before))
                | inr from ↦ elim (same_or_ahead direction q p from) [
                  | inl same ↦ inr (subst (λ (r : ℤ). up (way direction next (far_side direction z.reads r)) ≤ up (way direction next far)) same (omega arith))
                  | inr after ↦
                      let Before : ℤ → ℤ → Type 0 = λ r d. Precedes direction d (r +ℤ pos 1) in
                      let lt = both_next direction q p after in
                      inl (all_added direction (Before p) (q +ℤ pos 1) paced.gaps lt (All-weaker (Before q) (Before p) (λ d early. omega (arith, ints)) paced.gaps all))
                ]
              ];
              few = omega (arith, paced.few);
              counted = omega (arith, paced.counted);
            }
      ]

  -- a pass at a second whose nearer instant lies before the start: that lies near what the start shows, since the clock is put back by little
  paced_before : (e : ℤ) → Reaches direction (z.reads s) w → Precedes direction e s → z.reads e ≡ w → next ≡ one_on direction w → Paced direction z s next (k + 1)
  paced_before e from behind at moved =
      let same = ap (along direction) at in
      let turn = put_back z.reads (calm_of z is_calm) direction e s behind (omega (arith, ints)) in
      let one = ap (along direction) moved ∙ along-offset direction w 1 in
      let a = up_less (way direction (z.reads s) wall) (way direction (z.reads s) w) (omega (arith, ints)) in
      let b = nonnegative (way direction (z.reads s) w) (omega (arith, ints)) in
      let c = nonnegative (way direction (z.reads s) next) (omega (arith, ints)) in
      paced_by (omega (arith, ints)) (omega (arith, ints, paced.counted, turn)) (omega (arith, ints, paced.counted))

  pub paced_on : Reaches direction (z.reads s) w → IsSearched w → Paces direction z.reads s w next → Paced direction z s next (k + 1)
  paced_on from years paces =
      elim paces [ inl (unread, onward) ↦ paced_gap unread years onward | inr (moved, (e, at, behind)) ↦ paced_before e from behind at moved ]

-- a walk in a calm zone ends before its limit of passes
pub paced_ends : (direction : Direction) (z : Zone) → IsCalm z → (s wall : ℤ) (k : ℕ) → Paced direction z s wall k → k < pass_limit
paced_ends direction z calm s wall k paced = omega (arith, paced.few, (calm.few paced.gaps paced.met.0 paced.met.1).1)
