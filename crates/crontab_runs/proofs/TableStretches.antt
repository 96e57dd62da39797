-- Between two changes the clock of a calm table goes straight on.
use Rattle.std.proofs.Common.{◌≡◌, ◌⊎◌, inl, inr, ◌∙◌, sym, subst, ap, refl, add-one, ◌+◌, rules, arith, true, false, nat_lt, ◌-◌, ◌<◌, ◌≤◌, ℕ, zero, suc, ℤ, pos, neg_ℤ, ◌+ℤ◌, ◌-ℤ◌, ◌<ℤ◌, ◌≤ℤ◌, int_le, List, [], ◌∷◌, length, get_or}
use Rattle.std.proofs.lemmas.Int.{ints, by_lt_z}
use Rattle.croner_base.specs.declared.time.table.ClockTable.{ClockTable}
use Rattle.croner_base.specs.Limits.{apart_limit, fold_limit}
use Rattle.croner_base.specs.Table.{are_changes, is_step, is_calm_table, first_instant, last_instant}
use Rattle.croner_base.specs.TableZone.{clock, clock_reads, table_zone}
use Rattle.croner_base.specs.Private.TableSteps.{offset_past, IsCountUntil}
use Rattle.croner_base.proofs.tables.TableCalm.{clock_calm}
use Rattle.croner_base.proofs.tables.TableCheck.{first_change, calm_parts}
use Rattle.croner_base.proofs.tables.TableReadings.{at_or_before_first, count_until, offset_by_count}
use Rattle.croner_base.proofs.tables.TableOffsets.{IsOffset, calm_offset}
use Rattle.croner_base.proofs.tables.TableTests.{not_true, le_of, le_test, lt_of, instant_bounds, step_parts, step_moves}
use Rattle.croner.specs.Private.search.Halves.{Break}
use Rattle.croner.proofs.zone.ZoneOrder.{Calm, calm_of, below_before, above_after}
use Rattle.crontab_runs.specs.Private.Stretches.{far, begin_of, end_of, offset_before, IsStretch}

abbrev nothing : ℤ × ℤ
nothing = (pos 0, pos 0)

-- what stands at a place of the list is the same, whatever stands past it
any_default : (cs : List (ℤ × ℤ)) (k : ℕ) (d e : ℤ × ℤ) → k < length cs → get_or cs k d ≡ get_or cs k e
any_default [] k d e h = absurd (omega arith)
any_default (c ∷ cs) zero d e h = refl
any_default (c ∷ cs) (suc k) d e h = any_default cs k d e (omega arith)

-- each change is an instant of a table
each_instant : (o : ℤ) (cs : List (ℤ × ℤ)) (k : ℕ) → are_changes o cs ≡ true → k < length cs → (first_instant ≤ℤ (get_or cs k nothing).0) × ((get_or cs k nothing).0 ≤ℤ last_instant)
each_instant o [] k h lt = absurd (omega arith)
each_instant o (c ∷ cs) zero h lt = instant_bounds c.0 (first_change o c cs h).instant_in
each_instant o (c ∷ cs) (suc k) h lt = each_instant c.1 cs k (first_change o c cs h).rest (omega arith)

-- and lies before the next one
each_apart : (o : ℤ) (cs : List (ℤ × ℤ)) (k : ℕ) → are_changes o cs ≡ true → suc k < length cs → (get_or cs k nothing).0 <ℤ (get_or cs (suc k) nothing).0
each_apart o [] k h lt = absurd (omega arith)
each_apart o (c ∷ []) k h lt = absurd (omega arith)
each_apart o (c ∷ (d ∷ ds)) zero h lt = omega (arith, ints, lt_of (c.0 +ℤ pos apart_limit) d.0 (first_change o c (d ∷ ds) h).apart)
each_apart o (c ∷ (d ∷ ds)) (suc k) h lt = each_apart c.1 (d ∷ ds) k (first_change o c (d ∷ ds) h).rest (omega arith)

past_next : (o : ℤ) (c : ℤ × ℤ) (cs : List (ℤ × ℤ)) (n : ℕ) → offset_past c.1 cs n ≡ offset_past o (c ∷ cs) (suc n)
past_next o c cs zero = refl
past_next o c cs (suc n) = refl

-- and moves the clock
each_step : (o : ℤ) (cs : List (ℤ × ℤ)) (k : ℕ) → are_changes o cs ≡ true → k < length cs → is_step (offset_past o cs k) (get_or cs k nothing).1 ≡ true
each_step o [] k h lt = absurd (omega arith)
each_step o (c ∷ cs) zero h lt = (first_change o c cs h).step
each_step o (c ∷ cs) (suc k) h lt = subst (λ (x : ℤ). is_step x (get_or cs k nothing).1 ≡ true) (past_next o c cs k) (each_step c.1 cs k (first_change o c cs h).rest (omega arith))

pub end_at : (cs : List (ℤ × ℤ)) (n : ℕ) → n < length cs → end_of cs n ≡ (get_or cs n nothing).0
end_at cs n h = let t : nat_lt n (length cs) ≡ true = search rules in rw t refl

pub end_last : (cs : List (ℤ × ℤ)) (n : ℕ) → length cs ≤ n → end_of cs n ≡ pos far
end_last cs n h = let t : nat_lt n (length cs) ≡ false = search rules in rw t refl

pub nat_cases : (a b : ℕ) → (a < b) ⊎ (b ≤ a)
nat_cases a b = by_lt_z (pos a) (pos b) (λ lt. inl (omega (arith, ints))) (λ le. inr (omega (arith, ints)))

table_calm : (o : ℤ) (cs : List (ℤ × ℤ)) → is_calm_table o cs ≡ true → Calm (clock_reads o cs)
unfolding clock
table_calm o cs h = calm_of (clock o cs) (clock_calm o cs h)

module _ (o : ℤ) (cs : List (ℤ × ℤ)) (calm : is_calm_table o cs ≡ true) where
  -- the changes at or before an instant of a stretch are those before the stretch
  passed_changes : (n : ℕ) (i : ℤ) → n ≤ length cs → begin_of cs n ≤ℤ i → (k : ℕ) (d : ℤ × ℤ) → k < n → int_le (get_or cs k d).0 i ≡ true
  passed_changes zero i le low k d lt = absurd (omega arith)
  passed_changes (suc j) i le low k d lt =
      let same = any_default cs j nothing d (omega arith) in
      let at : (get_or cs j d).0 ≤ℤ i = subst (λ (c : ℤ × ℤ). c.0 ≤ℤ i) same low in
      at_or_before_first o cs i d calm k j (omega arith) (omega arith) (le_test _ i at)

  later_changes : (n : ℕ) (i : ℤ) → i <ℤ end_of cs n → (k : ℕ) (d : ℤ × ℤ) → n ≤ k → k < length cs → int_le (get_or cs k d).0 i ≡ false
  later_changes n i high k d le lt = not_true _ (λ up.
      let here = le_of _ i (at_or_before_first o cs i d calm n k le lt up) in
      let same = any_default cs n d nothing (omega arith) in
      let at : (get_or cs n nothing).0 ≤ℤ i = subst (λ (c : ℤ × ℤ). c.0 ≤ℤ i) same here in
      omega (arith, ints, at, high, end_at cs n (omega arith)))

  count_in : (n : ℕ) (i : ℤ) → n ≤ length cs → begin_of cs n ≤ℤ i → i <ℤ end_of cs n → IsCountUntil cs i n
  count_in n i le low high = count_until cs i n le (λ k d _ lt. passed_changes n i le low k d lt) (λ k d on lt. later_changes n i high k d on lt)

  reads_in : (n : ℕ) (i : ℤ) → n ≤ length cs → begin_of cs n ≤ℤ i → i <ℤ end_of cs n → clock_reads o cs i ≡ i +ℤ offset_past o cs n
  reads_in n i le low high = ap (λ (x : ℤ). i +ℤ x) (offset_by_count o cs i n (count_in n i le low high))

  -- a stretch has a second, and lies within the range of numbers
  begin_bounds : (n : ℕ) → n ≤ length cs → (neg_ℤ (pos far) ≤ℤ begin_of cs n) × (begin_of cs n <ℤ pos far)
  begin_bounds zero le = (omega (arith, ints), omega (arith, ints))
  begin_bounds (suc k) le = let b = each_instant o cs k (calm_parts o cs calm).changes (omega arith) in (omega (arith, ints, b), omega (arith, ints, b))

  end_bound : (n : ℕ) → end_of cs n ≤ℤ pos far
  end_bound n = elim (nat_cases n (length cs)) [
    | inl lt ↦ omega (arith, ints, end_at cs n lt, each_instant o cs n (calm_parts o cs calm).changes lt)
    | inr le ↦ omega (arith, ints, end_last cs n le)
  ]

  ordered : (n : ℕ) → n ≤ length cs → begin_of cs n <ℤ end_of cs n
  ordered n le = elim (nat_cases n (length cs)) [
    | inr last ↦ omega (arith, ints, end_last cs n last, begin_bounds n le)
    | inl lt ↦ ordered_before n lt
  ] where
    ordered_before : (n : ℕ) → n < length cs → begin_of cs n <ℤ end_of cs n
    ordered_before zero lt = omega (arith, ints, end_at cs 0 lt, each_instant o cs 0 (calm_parts o cs calm).changes lt)
    ordered_before (suc k) lt = omega (arith, ints, end_at cs (suc k) lt, each_apart o cs k (calm_parts o cs calm).changes lt)

  -- offsets are at most a day
  offset_bound : (n : ℕ) → n ≤ length cs → IsOffset (offset_past o cs n)
  offset_bound n le =
      let at = offset_by_count o cs (begin_of cs n) n (count_in n (begin_of cs n) le (omega (arith, ints)) (ordered n le)) in
      subst IsOffset at (calm_offset o cs (begin_of cs n) calm)

  before_bound : (n : ℕ) → n ≤ length cs → IsOffset (offset_before o cs n)
  before_bound zero le = offset_bound 0 (omega arith)
  before_bound (suc k) le = offset_bound k (omega arith)

  -- before all changes the first offset is in force
  reads_first : (i : ℤ) → i <ℤ end_of cs 0 → clock_reads o cs i ≡ i +ℤ o
  reads_first i high = ap (λ (x : ℤ). i +ℤ x) (offset_by_count o cs i 0 (count_until cs i 0 (omega arith) (λ k d _ lt. absurd (omega arith)) (λ k d on lt. later_changes 0 i high k d on lt)))

  -- what is shown at the second before a stretch
  reads_before : (n : ℕ) → n ≤ length cs → clock_reads o cs (begin_of cs n -ℤ pos 1) ≡ begin_of cs n -ℤ pos 1 +ℤ offset_before o cs n
  reads_before zero le = reads_first (begin_of cs 0 -ℤ pos 1) (omega (arith, ints, ordered 0 le))
  reads_before (suc k) le =
      let here = ordered k (omega arith) in
      let end = end_at cs k (omega arith) in
      reads_in k (begin_of cs (suc k) -ℤ pos 1) (omega arith) (omega (arith, ints, here, end)) (omega (arith, ints, end))

  breaks_at : (k : ℕ) → k < length cs → Break (clock_reads o cs) (begin_of cs (suc k) -ℤ pos 1)
  breaks_at k lt = λ same.
      let p : ℤ = begin_of cs (suc k) -ℤ pos 1 in
      let next : clock_reads o cs (p +ℤ pos 1) ≡ begin_of cs (suc k) +ℤ offset_past o cs (suc k) =
      ap (clock_reads o cs) (omega (arith, ints)) ∙ reads_in (suc k) (begin_of cs (suc k)) (omega arith) (omega (arith, ints)) (ordered (suc k) (omega arith)) in
      let before = reads_before (suc k) (omega arith) in
      step_moves (offset_past o cs k) (get_or cs k nothing).1 (each_step o cs k (calm_parts o cs calm).changes lt) (omega (arith, ints, same, next, before))

  -- and no more is shown at an earlier one
  reads_past : (n : ℕ) (j : ℤ) → n ≤ length cs → j <ℤ begin_of cs n → clock_reads o cs j ≤ℤ (begin_of cs n -ℤ pos 1 +ℤ offset_before o cs n)
  reads_past zero j le lt = omega (arith, ints, reads_first j (omega (arith, ints, lt, ordered 0 le)))
  reads_past (suc k) j le lt =
      let low = below_before (clock_reads o cs) (table_calm o cs calm) (begin_of cs (suc k) -ℤ pos 1) j (breaks_at k (omega arith)) (omega (arith, ints)) in
      omega (arith, ints, low, reads_before (suc k) le)

  end_low : (n : ℕ) → first_instant ≤ℤ end_of cs n
  end_low n = elim (nat_cases n (length cs)) [
    | inl lt ↦ omega (arith, ints, end_at cs n lt, each_instant o cs n (calm_parts o cs calm).changes lt)
    | inr le ↦ omega (arith, ints, end_last cs n le)
  ]

  -- and no less than at its first second from there on
  reads_above : (n : ℕ) (j : ℤ) → n ≤ length cs → begin_of cs n ≤ℤ j → (begin_of cs n +ℤ offset_past o cs n) ≤ℤ clock_reads o cs j
  reads_above zero j le low = by_lt_z j (end_of cs 0)
      (λ inside. omega (arith, ints, low, reads_in 0 j le low inside))
      (λ beyond. omega (arith, ints, beyond, end_low 0, offset_bound 0 le, calm_offset o cs j calm))
  reads_above (suc k) j le low =
      let p : ℤ = begin_of cs (suc k) -ℤ pos 1 in
      let above = above_after (clock_reads o cs) (table_calm o cs calm) p j (breaks_at k (omega arith)) (omega (arith, ints, low)) in
      let here : clock_reads o cs (p +ℤ pos 1) ≡ begin_of cs (suc k) +ℤ offset_past o cs (suc k) =
      ap (clock_reads o cs) (omega (arith, ints)) ∙ reads_in (suc k) (begin_of cs (suc k)) (omega arith) (omega (arith, ints)) (ordered (suc k) (omega arith)) in
      omega (arith, ints, above, here)

  goes_back : (n : ℕ) → n ≤ length cs → (offset_before o cs n) ≤ℤ (offset_past o cs n +ℤ pos fold_limit)
  goes_back zero le = omega (arith, ints)
  goes_back (suc k) le = omega (arith, ints, step_parts (offset_past o cs k) (get_or cs k nothing).1 (each_step o cs k (calm_parts o cs calm).changes (omega arith)))

  -- the stretch after so many changes
  pub stretch_is : (n : ℕ) → n ≤ length cs → IsStretch (clock o cs) (begin_of cs n) (end_of cs n) (offset_past o cs n) (begin_of cs n -ℤ pos 1 +ℤ offset_before o cs n)
  unfolding clock
  stretch_is n le =
      let b = begin_bounds n le in
      let p = offset_bound n le in
      let q = before_bound n le in
      record {
        steady = λ i low high. reads_in n i le low high;
        last = reads_before n le;
        past = λ j lt. reads_past n j le lt;
        above = λ j low. reads_above n j le low;
        back = omega (arith, ints, goes_back n le);
        order = ordered n le;
        begin_low = b.0;
        end_high = end_bound n;
        offset_low = p.0;
        offset_high = p.1;
        before_low = omega (arith, ints, b, q);
        before_high = omega (arith, ints, b, q);
      }

-- the offset before a stretch is that of the stretch before it
pub one_before : (o : ℤ) (cs : List (ℤ × ℤ)) (n k : ℕ) → k ≡ n - 1 → offset_past o cs k ≡ offset_before o cs n
one_before o cs zero k e = let first : k ≡ 0 = omega (arith, e) in ap (offset_past o cs) first
one_before o cs (suc n) k e = let same : k ≡ n = omega (arith, e) in ap (offset_past o cs) same

pub table_stretch : (t : ClockTable) (n : ℕ) → n ≤ length t.changes.items
    → IsStretch (table_zone t) (begin_of t.changes.items n) (end_of t.changes.items n) (offset_past t.first_offset t.changes.items n)
    (begin_of t.changes.items n -ℤ pos 1 +ℤ offset_before t.first_offset t.changes.items n)
table_stretch t n le = stretch_is t.first_offset t.changes.items t.calm n le

-- a stretch begins where the one before it ends
pub begin_next : (cs : List (ℤ × ℤ)) (n : ℕ) → n < length cs → begin_of cs (n + 1) ≡ end_of cs n
begin_next cs n lt = ap (begin_of cs) (add-one n) ∙ sym (end_at cs n lt)

-- and so they follow one another
begins_rise : (t : ClockTable) (n d : ℕ) → n + d ≤ length t.changes.items → begin_of t.changes.items n ≤ℤ begin_of t.changes.items (n + d)
begins_rise t n zero le = let same : n + 0 ≡ n = omega arith in omega (arith, ints, ap (begin_of t.changes.items) same)
begins_rise t n (suc d) le =
    let same : n + suc d ≡ n + d + 1 = omega arith in
    let before = begins_rise t n d (omega (arith, le)) in
    let next = begin_next t.changes.items (n + d) (omega (arith, le)) in
    let order = (table_stretch t (n + d) (omega (arith, le))).order in
    omega (arith, ints, ap (begin_of t.changes.items) same, before, next, order)

pub begins_in_order : (t : ClockTable) (a b : ℕ) → a ≤ b → b ≤ length t.changes.items → begin_of t.changes.items a ≤ℤ begin_of t.changes.items b
begins_in_order t a b le within =
    let same : a + (b - a) ≡ b = omega (arith, le) in
    subst (λ (n : ℕ). begin_of t.changes.items a ≤ℤ begin_of t.changes.items n) same (begins_rise t a (b - a) (omega (arith, le, within)))

-- the stretch of an instant, by the changes at or before it
pub begin_by_count : (cs : List (ℤ × ℤ)) (n : ℕ) (i : ℤ) → neg_ℤ (pos far) ≤ℤ i → ((k : ℕ) (d : ℤ × ℤ) → 0 ≤ k → k < n → int_le (get_or cs k d).0 i ≡ true) → begin_of cs n ≤ℤ i
begin_by_count cs zero i low h = low
begin_by_count cs (suc k) i low h = le_of _ i (h k nothing (omega arith) (omega arith))

pub end_by_count : (cs : List (ℤ × ℤ)) (n : ℕ) (i : ℤ) → i <ℤ pos far → ((k : ℕ) (d : ℤ × ℤ) → n ≤ k → k < length cs → int_le (get_or cs k d).0 i ≡ false) → i <ℤ end_of cs n
end_by_count cs n i high h = elim (nat_cases n (length cs)) [
  | inl lt ↦
      let f = h n nothing (omega arith) lt in
      let past : i <ℤ (get_or cs n nothing).0 = grind (arith, ints, f) in
      omega (arith, ints, past, end_at cs n lt)
  | inr le ↦ omega (arith, ints, high, end_last cs n le)
]
