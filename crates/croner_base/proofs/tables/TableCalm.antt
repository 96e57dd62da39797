-- The clock of a calm table is calm, and holds what a search needs.
use Rattle.std.proofs.Common.{◌≡◌, ◌⊎◌, inl, inr, sym, ap, ◌∙◌, subst, Bool, true, false, refl, arith, zero, suc, ◌≤◌, ℤ, pos, neg_ℤ, ◌+ℤ◌, ◌-ℤ◌, ◌<ℤ◌, ◌≤ℤ◌, int_lt, unsigned_abs, if◌then◌else◌, List, [], ◌∷◌, length, Some, None, IsSome}
use Rattle.std.proofs.lemmas.Int.{by_lt_z}
use Rattle.std.proofs.lemmas.Bool.Decides.{Decides-or}
use Rattle.std.proofs.lemmas.List.Elements.{All-tail}
use Rattle.std.specs.List.{All}
use Rattle.jiff_core.proofs.SignedLemmas.{signed_arith}
use Rattle.croner_base.specs.declared.time.civil.CivilDateTime.{CivilDateTime}
use Rattle.croner_base.specs.declared.time.table.ClockTable.{ClockTable}
use Rattle.croner_base.specs.declared.time.table.TableTime.{TableTime}
use Rattle.croner_base.specs.declared.time.value.Resolution.{Resolution}
use Rattle.croner_base.specs.Civil.{wall_second}
use Rattle.croner_base.specs.Zone.{Zone, reading}
use Rattle.croner_base.specs.Calm.{IsChange, IsMet, IsSearched, IsCalm, NamesAll, Rises, HoldsAround, jump, gap_seconds}
use Rattle.croner_base.specs.ZonedZone.{is_near_year, first_timestamp, last_timestamp}
use Rattle.croner_base.specs.Table.{is_apart, are_changes, met_count, met_gaps, offset_at, is_met, met_at, gap_at, is_calm_table, offset_limit}
use Rattle.croner_base.specs.TableZone.{clock, clock_reads, table_zone, table_moment}
use Rattle.croner_base.proofs.tables.TableTests.{IsSmallStep, step_parts, between, lt_test, lt_false, instant_test}
use Rattle.croner_base.proofs.tables.TableCheck.{first_change, calm_parts}
use Rattle.croner_base.proofs.tables.TableOffsets.{calm_offset, calm_changes_once, stays}
use Rattle.croner_base.proofs.tables.TableReadings.{passed, ahead, names_instants}
use Rattle.croner_base.proofs.clocks.ZonedHolds.{farthest_offset, IsNearUtc, holds_around}
use Rattle.croner_base.specs.Limits.{apart_limit, first_searched, last_searched, first_start, last_start}

-- the offset in force changes at d
abbrev pub IsOffsetChange : ℤ → List (ℤ × ℤ) → ℤ → Type 0
IsOffsetChange o cs d = offset_at o cs d ≡ offset_at o cs (d -ℤ pos 1) → ⊥

-- that is at a change of the table
pub place : (o : ℤ) (c : ℤ × ℤ) (cs : List (ℤ × ℤ)) (d : ℤ) → IsOffsetChange o (c ∷ cs) d → (d ≡ c.0) ⊎ ((c.0 <ℤ d) × IsOffsetChange c.1 cs d)
place o c cs d m =
    by_lt_z d c.0
    (λ lt. absurd (m (ahead o c cs d lt ∙ sym (ahead o c cs (d -ℤ pos 1) (omega (arith, signed_arith, lt))))))
    (λ ge. by_lt_z c.0 d
    (λ gt. inr (gt, λ e. m (passed o c cs d ge ∙ e ∙ sym (passed o c cs (d -ℤ pos 1) (omega (arith, signed_arith, gt))))))
    (λ le. inl (omega (arith, signed_arith, ge, le))))

-- there the offset is the change's, and was the one before
pub at_change : (o : ℤ) (c : ℤ × ℤ) (cs : List (ℤ × ℤ)) (d : ℤ) → is_apart c cs ≡ true → d ≡ c.0 → (offset_at o (c ∷ cs) d ≡ c.1) × (offset_at o (c ∷ cs) (d -ℤ pos 1) ≡ o)
at_change o c cs d h e = (
  passed o c cs d (omega (arith, signed_arith, e)) ∙ stays c cs d h (omega (arith, signed_arith, e)),
  ahead o c cs (d -ℤ pos 1) (omega (arith, signed_arith, e)),
)

moved_by : (o : ℤ) (cs : List (ℤ × ℤ)) (d : ℤ) → are_changes o cs ≡ true → IsOffsetChange o cs d → IsSmallStep (offset_at o cs (d -ℤ pos 1)) (offset_at o cs d)
moved_by o [] d h m = absurd (m refl)
moved_by o (c ∷ cs) d h m =
    let f = first_change o c cs h in
    elim (place o c cs d m) [
      | inl e ↦ let a = at_change o c cs d f.apart e in rw (a.0, a.1) (step_parts o c.1 f.step)
      | inr q ↦
          let x = passed o c cs d (omega (arith, signed_arith, q.0)) in
          let y = passed o c cs (d -ℤ pos 1) (omega (arith, signed_arith, q.0)) in
          rw (x, y) (moved_by c.1 cs d f.rest q.1)
    ]

far_apart : (o : ℤ) (cs : List (ℤ × ℤ)) (d e : ℤ) → is_calm_table o cs ≡ true → IsOffsetChange o cs d → IsOffsetChange o cs e → d <ℤ e → (d +ℤ pos apart_limit) <ℤ e
far_apart o cs d e h m n lt = by_lt_z (d +ℤ pos apart_limit) e (λ far. far) (λ near. absurd (elim (calm_changes_once o cs (d -ℤ pos 1) d e h (omega (arith, signed_arith)) (omega (arith, signed_arith, lt)) (omega (arith, signed_arith, near))) [
  | inl p ↦ m p
  | inr p ↦ elim (calm_changes_once o cs d (e -ℤ pos 1) e h (omega (arith, signed_arith, lt)) (omega (arith, signed_arith)) (omega (arith, signed_arith, near))) [ inl q ↦ n (sym p ∙ sym q) | inr q ↦ n (sym q) ]
]))

-- a met change is counted, and so are the seconds that it skips
seen : (o : ℤ) (c : ℤ × ℤ) → IsSearched (c.0 +ℤ c.1) ⊎ IsSearched (c.0 -ℤ pos 1 +ℤ o) → is_met o c ≡ true
seen o c h = (Decides-or _ _ (between first_searched last_searched (c.0 +ℤ c.1)) (between first_searched last_searched (c.0 -ℤ pos 1 +ℤ o))).1 h

skipped : (o : ℤ) (c : ℤ × ℤ) (j : ℤ) → is_met o c ≡ true → j ≡ c.1 -ℤ o → (if int_lt (pos 0) j then unsigned_abs j else 0) ≡ gap_at o c
skipped o c j h e =
    by_lt_z o c.1
    (λ lt. let a = lt_test (pos 0) (c.1 -ℤ o) (omega (arith, signed_arith, lt)) in let b = lt_test o c.1 lt in rw (e, a, b, h))
    (λ ge. let a = lt_false (pos 0) (c.1 -ℤ o) (omega (arith, signed_arith, ge)) in let b = lt_false o c.1 ge in rw (e, a, b, h))

plain_change : (u v d x y : ℤ) → u ≡ d +ℤ x → v ≡ (d -ℤ pos 1) +ℤ y → x ≡ y → u ≡ v +ℤ pos 1
plain_change u v d x y p q e = omega (arith, signed_arith)

above_first : (d : ℤ) (ds : List ℤ) → All (λ e. d <ℤ e) ds → All (λ e. (d -ℤ pos 1) <ℤ e) (d ∷ ds)
above_first d ds h zero e l = omega (arith, signed_arith)
above_first d ds h (suc k) e l = let a = h k e (omega arith) in omega (arith, signed_arith, a)

-- of a zone that reads as the table after f, the changes after f are counted
few_in : (z : Zone) (f o : ℤ) (cs : List (ℤ × ℤ)) (ds : List ℤ) → ((i : ℤ) → f ≤ℤ i → z.reads i ≡ clock_reads o cs i) → All (λ e. f <ℤ e) ds → are_changes o cs ≡ true → Rises ds → All (IsMet z) ds → (length ds ≤ met_count o cs) × (gap_seconds z ds ≤ met_gaps o cs)
few_in z f o cs [] agree above h r met = (omega arith, omega arith)
few_in z f o [] (d ∷ ds) agree above h r met =
    let a = above 0 d (omega arith) in
    let p : z.reads d ≡ d +ℤ o = agree d (omega (arith, signed_arith, a)) in
    let q : z.reads (d -ℤ pos 1) ≡ (d -ℤ pos 1) +ℤ o = agree (d -ℤ pos 1) (omega (arith, signed_arith, a)) in
    absurd ((met 0 d (omega arith)).0 (omega (arith, signed_arith, p, q)))
few_in z f o (c ∷ cs) (d ∷ ds) agree above h r met =
    let m = met 0 d (omega arith) in
    let a = above 0 d (omega arith) in
    let n = first_change o c cs h in
    let p : z.reads d ≡ d +ℤ offset_at o (c ∷ cs) d = agree d (omega (arith, signed_arith, a)) in
    let q : z.reads (d -ℤ pos 1) ≡ (d -ℤ pos 1) +ℤ offset_at o (c ∷ cs) (d -ℤ pos 1) = agree (d -ℤ pos 1) (omega (arith, signed_arith, a)) in
    elim (place o c cs d (λ e. m.0 (plain_change _ _ d _ _ p q e))) [
      | inl here ↦
          let w = at_change o c cs d n.apart here in
          let rest = few_in z d c.1 cs ds (λ i le. agree i (omega (arith, signed_arith, a, le)) ∙ ap (λ (x : ℤ). i +ℤ x) (passed o c cs i (omega (arith, signed_arith, here, le)))) r.0 n.rest r.1 (All-tail (IsMet z) d ds met) in
          let x : z.reads d ≡ c.0 +ℤ c.1 = p ∙ rw w.0 (omega (arith, signed_arith, here)) in
          let y : z.reads (d -ℤ pos 1) ≡ c.0 -ℤ pos 1 +ℤ o = q ∙ rw w.1 (omega (arith, signed_arith, here)) in
          let seen1 = seen o c (rw (x, y) at m.1) in
          let one : met_at o c ≡ 1 = rw seen1 refl in
          let skip = skipped o c (jump z d) seen1 (omega (arith, signed_arith, x, y)) in
          (omega (arith, one, rest.0), omega (arith, skip, rest.1))
      | inr past ↦
          let rest = few_in z (d -ℤ pos 1) c.1 cs (d ∷ ds) (λ i le. agree i (omega (arith, signed_arith, a, le)) ∙ ap (λ (x : ℤ). i +ℤ x) (passed o c cs i (omega (arith, signed_arith, past.0, le)))) (above_first d ds r.0) n.rest r met in
          (omega (arith, rest.0), omega (arith, rest.1))
    ]

few_all : (z : Zone) (o : ℤ) (cs : List (ℤ × ℤ)) (ds : List ℤ) → ((i : ℤ) → z.reads i ≡ clock_reads o cs i) → are_changes o cs ≡ true → Rises ds → All (IsMet z) ds → (length ds ≤ met_count o cs) × (gap_seconds z ds ≤ met_gaps o cs)
few_all z o cs [] agree h r met = (omega arith, omega arith)
few_all z o cs (d ∷ ds) agree h r met = few_in z (d -ℤ pos 1) o cs (d ∷ ds) (λ i le. agree i) (above_first d ds r.0) h r met

exact_by : (z : Zone) (w : ℤ) (b : Bool) (x r : Resolution ℤ) → (if b then Some x else None) ≡ Some r → NamesAll z w x → NamesAll z w r
exact_by z w true x r e n = let same : x ≡ r = cc in subst (λ (y : Resolution ℤ). NamesAll z w y) same n
exact_by z w false x r e n = absurd (cc)

pub clock_calm : (o : ℤ) (cs : List (ℤ × ℤ)) → is_calm_table o cs ≡ true → IsCalm (clock o cs)
unfolding clock
clock_calm o cs h =
    let p = calm_parts o cs h in
    let moves : (d : ℤ) → IsChange (clock o cs) d → IsOffsetChange o cs d = λ d m e. m (plain_change _ _ d _ _ refl refl e) in
    record {
      exact = λ c r e. exact_by (clock o cs) (wall_second c) (is_near_year c.date.year) _ r e (names_instants o cs (wall_second c) h);
      small = λ d m. let s = moved_by o cs d p.changes (moves d m) in (omega (arith, signed_arith, s.0), omega (arith, signed_arith, s.1));
      apart = λ d e m n lt. far_apart o cs d e h (moves d m) (moves e n) lt;
      few = λ ds r m. let f = few_all (clock o cs) o cs ds (λ i. refl) p.changes r m in (omega (arith, f.0, p.few), omega (arith, f.1, p.few_seconds));
    }

-- what a search needs held
named : (t : ClockTable) (c : CivilDateTime) → is_near_year c.date.year ≡ true → IsSome ((table_zone t).resolves c)
unfolding clock
named t c near = rw near refl

held : (t : ClockTable) (i : ℤ) → first_timestamp ≤ℤ i → i ≤ℤ last_timestamp → (table_zone t).holds i ≡ true
unfolding clock
held t i low high = instant_test i (omega (arith, signed_arith, low)) (omega (arith, signed_arith, high))

near_plain : (i x : ℤ) → (neg_ℤ (pos offset_limit) ≤ℤ x) × (x ≤ℤ pos offset_limit) → ((i -ℤ pos farthest_offset) ≤ℤ (i +ℤ x)) × ((i +ℤ x) ≤ℤ (i +ℤ pos farthest_offset))
near_plain i x h = (omega (arith, signed_arith, h), omega (arith, signed_arith, h))

near_utc : (t : ClockTable) → IsNearUtc (table_zone t)
unfolding clock
near_utc t =
    λ i. near_plain i (offset_at t.first_offset t.changes.items i) (calm_offset t.first_offset t.changes.items i t.calm)

pub table_holds : (t : TableTime) → first_start ≤ℤ reading (table_moment t) → reading (table_moment t) ≤ℤ last_start → HoldsAround (table_moment t)
table_holds t low high = holds_around (table_moment t) (named t.table.now) (held t.table.now) (near_utc t.table.now) low high
