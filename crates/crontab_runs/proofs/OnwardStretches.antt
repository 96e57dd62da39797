-- Which stretch a search comes to next: by the minutes for which something can be started from one on, or before it.
use Rattle.std.proofs.Common.{◌≡◌, ◌⊎◌, inl, inr, sym, subst, ap, refl, arith, Bool, true, false, if◌then◌else◌, ℕ, ◌<◌, ◌≤◌, ◌-◌, ◌+◌, ℤ, pos, ◌+ℤ◌, ◌-ℤ◌, ◌*ℤ◌, ◌<ℤ◌, ◌≤ℤ◌, length}
use Rattle.std.proofs.lemmas.Int.{ints, int_min_is}
use Rattle.croner_base.specs.declared.time.Direction.{Direction}
use Rattle.croner_base.specs.declared.time.Direction.TheVariants.{Forward, Backward}
use Rattle.croner_base.specs.declared.time.table.ClockTable.{ClockTable}
use Rattle.croner_base.specs.TableZone.{clock, table_zone}
use Rattle.croner_base.specs.Zone.{Zone}
use Rattle.croner_base.proofs.tables.TableOffsets.{calm_offset}
use Rattle.croner_pattern.specs.Meaning.{Meaning}
use Rattle.crontab_runs.specs.declared.stretch.Stretch.{Stretch}
use Rattle.crontab_runs.specs.Private.Known.{AreAllFrom}
use Rattle.crontab_runs.specs.Private.Onward.{IsNextStretch, IsStretchBefore}
use Rattle.crontab_runs.specs.Private.Parts.{least_after_begin}
use Rattle.crontab_runs.specs.Private.Stretches.{begin_of, end_of, IsStretch}
use Rattle.crontab_runs.specs.Starts.{minute_of, is_from_to, due_after, most_late, most_changed, CronJob, cron_job, NamesMinute, Starts}
use Rattle.crontab_runs.proofs.DueMinutes.{minute_bounds, minute_rises, due_near}
use Rattle.crontab_runs.proofs.StretchStarts.{some_named}
use Rattle.crontab_runs.proofs.TableStretches.{nat_cases, begin_next}

either_least : (b : Bool) (x y r m : ℤ) → (b ≡ true → (r ≤ℤ x) ⊎ ((m -ℤ pos 1) ≤ℤ x)) → (b ≡ false → (r ≤ℤ y) ⊎ ((m -ℤ pos 1) ≤ℤ y))
    → (r ≤ℤ (if b then x else y)) ⊎ ((m -ℤ pos 1) ≤ℤ (if b then x else y))
either_least true x y r m h k = h refl
either_least false x y r m h k = k refl

-- what is due is so after the greatest minute, or it is the one that is shown
due_least : (starred : Bool) (r m : ℤ) → (r ≤ℤ due_after starred r m) ⊎ ((m -ℤ pos 1) ≤ℤ due_after starred r m)
due_least starred r m =
    let old : r ≤ℤ r = omega (arith, ints) in
    let one : (m -ℤ pos 1) ≤ℤ (m -ℤ pos 1) = omega (arith, ints) in
    let own : (m -ℤ pos 1) ≤ℤ m = omega (arith, ints) in
    either_least (is_from_to (pos 1) (pos most_late) (m -ℤ r)) r _ r m (λ _. inl old)
    (λ _. either_least (is_from_to (pos (most_late + 1)) (pos most_changed) (m -ℤ r)) (if starred then m -ℤ pos 1 else r) _ r m
    (λ _. either_least starred (m -ℤ pos 1) r r m (λ _. inr one) (λ _. inl old))
    (λ _. either_least (is_from_to (pos 1 -ℤ pos most_changed) (pos 0) (m -ℤ r)) (if starred then m -ℤ pos 1 else m) (m -ℤ pos 1) r m
    (λ _. either_least starred (m -ℤ pos 1) m r m (λ _. inr one) (λ _. inr own)) (λ _. inr one)))

module _ (z : Zone) (begin end o before : ℤ) (s : IsStretch z begin end o before) (m : Meaning) (starred : Bool) (i : ℤ) where
  -- from the first second of a stretch on nothing is started for a minute before the least
  started_from : begin ≤ℤ i → Starts (cron_job m starred) z i → (k : ℤ) × NamesMinute m k × (least_after_begin begin o before ≤ℤ k) × (k ≤ℤ minute_of (z.reads i))
  started_from low (n, some, (minutes, for, count)) =
      let (k, over, upto, named) = some_named (NamesMinute m) _ _ minutes for.due (omega (arith, some, count)) in
      let last : minute_of before ≤ℤ for.before = subst (λ (w : ℤ). minute_of w ≤ℤ for.before) s.last (for.greatest.greatest (begin -ℤ pos 1) (omega (arith, ints, low))) in
      let here = minute_rises (begin +ℤ o) (z.reads i) (s.above i low) in
      let least = int_min_is (minute_of (begin +ℤ o)) (minute_of before +ℤ pos 1) in (
        k,
        named,
        elim (due_least starred for.before (minute_of (z.reads i))) [
          | inl old ↦ omega (arith, ints, old, over, last, least)
          | inr now ↦ omega (arith, ints, now, over, here, least)
        ],
        upto,
      )

  -- before it nothing is started for a minute after the greatest, nor for one three hours before the one that is shown
  started_before : i <ℤ begin → Starts (cron_job m starred) z i → (k : ℤ) × NamesMinute m k × (k ≤ℤ minute_of before) × (minute_of (z.reads i) <ℤ (k +ℤ pos most_changed))
  started_before high (n, some, (minutes, for, count)) =
      let (k, over, upto, named) = some_named (NamesMinute m) _ _ minutes for.due (omega (arith, some, count)) in
      let past = minute_rises (z.reads i) before (s.past i high) in
      (k, named, omega (arith, ints, upto, past), omega (arith, ints, due_near starred for.before (minute_of (z.reads i)), over))

-- the clock of a table is at most a day ahead of UTC or behind it
reads_near : (t : ClockTable) (i : ℤ) → ((table_zone t).reads i ≤ℤ (i +ℤ pos 86_400)) × ((i -ℤ pos 86_400) ≤ℤ (table_zone t).reads i)
unfolding clock
reads_near t i = let o = calm_offset t.first_offset t.changes.items i t.calm in (omega (arith, ints, o), omega (arith, ints, o))

-- the search goes on at once
pub next_at_once : (job : CronJob) (t : ClockTable) (n : ℕ) → n ≤ length t.changes.items → IsNextStretch job t n n
next_at_once job t n le = record { on = omega arith; within = le; none = λ i low high starts. omega (arith, ints, low, high) }

pub before_at_once : (job : CronJob) (t : ClockTable) (n : ℕ) → n ≤ length t.changes.items → 0 < n → IsStretchBefore job t n (n - 1)
before_at_once job t n le some =
    let same : n - 1 + 1 ≡ n = omega (arith, some) in
    let begins = begin_next t.changes.items (n - 1) (omega (arith, some, le)) in
    let here = ap (begin_of t.changes.items) same in
    record { on = omega (arith, some); none = λ i low high starts. omega (arith, ints, low, high, begins, here) }

-- or passes over stretches
module _ (m : Meaning) (starred : Bool) (t : ClockTable) (direction : Direction) (from first : ℤ) (all : AreAllFrom direction m from first)
    (n : ℕ) (le : n ≤ length t.changes.items) (s : Stretch) (on_table : s.table.now ≡ t) (begin_is : s.begin ≡ begin_of t.changes.items n) where
  own_starts : (i : ℤ) → Starts (cron_job m starred) (table_zone t) i → Starts (cron_job m starred) (table_zone s.table.now) i
  own_starts i starts = subst (λ (x : ClockTable). Starts (cron_job m starred) (table_zone x) i) (sym on_table) starts

  none_between : direction ≡ Forward → (c : ℕ) → from ≤ℤ least_after_begin s.begin s.offset s.before → begin_of t.changes.items c ≤ℤ (first *ℤ pos 60 -ℤ pos 86_400)
      → (i : ℤ) → begin_of t.changes.items n ≤ℤ i → i <ℤ begin_of t.changes.items c → Starts (cron_job m starred) (table_zone t) i → ⊥
  none_between forward c near begins i low high starts =
      let here : AreAllFrom Forward m from first = subst (λ (d : Direction). AreAllFrom d m from first) forward all in
      let (k, named, least, upto) = started_from (table_zone s.table.now) s.begin s.end s.offset s.before s.fits m starred i (omega (arith, ints, low, begin_is)) (own_starts i starts) in
      let over = here k (omega (arith, ints, near, least)) named in
      let reads = reads_near s.table.now i in
      let minute = minute_bounds ((table_zone s.table.now).reads i) in
      omega (arith, ints, over, upto, begins, high, reads, minute)

  pub next_is : direction ≡ Forward → (c next : ℕ) → c ≤ length t.changes.items → (c ≤ n → next ≡ n) → (n ≤ c → next ≡ c) → from ≤ℤ least_after_begin s.begin s.offset s.before
      → begin_of t.changes.items c ≤ℤ (first *ℤ pos 60 -ℤ pos 86_400) → IsNextStretch (cron_job m starred) t n next
  next_is forward c next within few more near begins = elim (nat_cases n c) [
    | inl lt ↦
        let is : c ≡ next = sym (more (omega (arith, lt))) in
        subst (λ (x : ℕ). IsNextStretch (cron_job m starred) t n x) is (record { on = omega (arith, lt); within = within; none = none_between forward c near begins })
    | inr back ↦ let is : n ≡ next = sym (few back) in subst (λ (x : ℕ). IsNextStretch (cron_job m starred) t n x) is (next_at_once (cron_job m starred) t n le)
  ]

  none_back_to : direction ≡ Backward → (c : ℕ) → minute_of s.before ≤ℤ from → ((first +ℤ pos most_changed) *ℤ pos 60 +ℤ pos 86_400) <ℤ end_of t.changes.items c
      → (i : ℤ) → end_of t.changes.items c ≤ℤ i → i <ℤ begin_of t.changes.items n → Starts (cron_job m starred) (table_zone t) i → ⊥
  none_back_to backward c near ends i low high starts =
      let here : AreAllFrom Backward m from first = subst (λ (d : Direction). AreAllFrom d m from first) backward all in
      let (k, named, greatest, shown) = started_before (table_zone s.table.now) s.begin s.end s.offset s.before s.fits m starred i (omega (arith, ints, high, begin_is)) (own_starts i starts) in
      let over = here k (omega (arith, ints, near, greatest)) named in
      let reads = reads_near s.table.now i in
      let minute = minute_bounds ((table_zone s.table.now).reads i) in
      omega (arith, ints, over, shown, ends, low, reads, minute)

  pub before_is : direction ≡ Backward → 0 < n → (c before : ℕ) → (c ≤ n - 1 → before ≡ c) → (n - 1 ≤ c → before ≡ n - 1) → minute_of s.before ≤ℤ from
      → ((first +ℤ pos most_changed) *ℤ pos 60 +ℤ pos 86_400) <ℤ end_of t.changes.items c → IsStretchBefore (cron_job m starred) t n before
  before_is backward some c before few more near ends = elim (nat_cases c (n - 1)) [
    | inl lt ↦
        let is : c ≡ before = sym (few (omega (arith, lt))) in
        subst (λ (x : ℕ). IsStretchBefore (cron_job m starred) t n x) is (record { on = omega (arith, lt); none = none_back_to backward c near ends })
    | inr ge ↦ let is : n - 1 ≡ before = sym (more ge) in subst (λ (x : ℕ). IsStretchBefore (cron_job m starred) t n x) is (before_at_once (cron_job m starred) t n le some)
  ]
