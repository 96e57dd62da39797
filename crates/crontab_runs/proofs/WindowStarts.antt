-- Two clocks that show the same in a window, and nothing later before it, have the same starts well in the window.
use Rattle.std.proofs.Common.{◌≡◌, ◌∙◌, inl, inr, refl, sym, ap, subst, arith, ℕ, ℤ, pos, ◌+ℤ◌, ◌-ℤ◌, ◌<ℤ◌, ◌≤ℤ◌, List}
use Rattle.std.proofs.lemmas.Int.{ints, by_lt_z}
use Rattle.jiff_tz.specs.declared.timezone.TimeZone.{TimeZone}
use Rattle.jiff_core.specs.Timestamp.{nanos_of_seconds}
use Rattle.jiff_tz.specs.Zone.{offset_at}
use Rattle.croner_base.specs.declared.time.Direction.{Direction}
use Rattle.croner_base.specs.declared.time.Direction.TheVariants.{Forward, Backward}
use Rattle.croner_base.specs.declared.time.table.ClockTable.{ClockTable}
use Rattle.croner_base.specs.Table.{offset_limit}
use Rattle.croner_base.specs.TableZone.{clock, table_zone}
use Rattle.croner_base.specs.Zone.{Zone}
use Rattle.croner_base.specs.ZonedZone.{zoned_zone, nearest_timestamp}
use Rattle.croner_base.proofs.clocks.ZonedHolds.{offset_within}
use Rattle.croner_base.proofs.tables.TableOffsets.{calm_offset}
use Rattle.croner.specs.laws.Zones.{day_margin, IsWellIn, IsClockOf}
use Rattle.croner.specs.Recurring.{CountsFrom}
use Rattle.croner.specs.search.Runs.{Reaches}
use Rattle.croner.proofs.zone.Windows.{SameWell, alike}
use Rattle.crontab_runs.specs.Starts.{minute_of, due_after, CronJob, AreNamed, IsGreatestBefore, StartsFor, StartsTimes, Starts}
use Rattle.crontab_runs.proofs.DueMinutes.{minute_rises}

module _ (tz : TimeZone) (first last : ℤ) where
  -- well in a window is two days after its first second, or more
  two_days_in : (i : ℤ) → IsWellIn tz first last i → (first +ℤ pos day_margin) ≤ℤ i
  two_days_in i (inl far, high) = omega (arith, ints, far)
  two_days_in i (inr far, high) = far.1

  -- two clocks show the same in a window, and before it nothing later than a second before what is well in it
  pub record SameMinutes (z t : Zone) : Type 0 where
    pub same : (i : ℤ) → first ≤ℤ i → i ≤ℤ last → z.reads i ≡ t.reads i
    pub below : (i k : ℤ) → i <ℤ first → IsWellIn tz first last k → (z.reads i ≤ℤ z.reads (k -ℤ pos 1)) × (t.reads i ≤ℤ t.reads (k -ℤ pos 1))

  same_back : (z t : Zone) → SameMinutes z t → SameMinutes t z
  same_back z t a = record { same = λ i low high. sym (a.same i low high); below = λ i k early inside. let b = a.below i k early inside in (b.1, b.0) }

  module _ (z t : Zone) (a : SameMinutes z t) (i : ℤ) (inside : IsWellIn tz first last i) where
    here : z.reads i ≡ t.reads i
    here = let far = two_days_in i inside in a.same i (omega (arith, ints, far)) inside.1

    before : z.reads (i -ℤ pos 1) ≡ t.reads (i -ℤ pos 1)
    before = let far = two_days_in i inside in a.same (i -ℤ pos 1) (omega (arith, ints, far)) (omega (arith, ints, inside.1))

    -- the greatest minute that was shown before is shown in the window
    greatest : (r : ℤ) → IsGreatestBefore t i r → IsGreatestBefore z i r
    greatest r g =
        let last_one : minute_of (t.reads (i -ℤ pos 1)) ≤ℤ r = g.greatest (i -ℤ pos 1) (omega (arith, ints)) in
        let (k, earlier, is) = g.shown in
        record {
          shown = by_lt_z k first
              (λ early.
              let up : minute_of (t.reads k) ≤ℤ minute_of (t.reads (i -ℤ pos 1)) = minute_rises (t.reads k) (t.reads (i -ℤ pos 1)) (a.below k i early inside).1 in
              let same : minute_of (t.reads (i -ℤ pos 1)) ≡ r = omega (arith, ints, up, is, last_one) in
              (i -ℤ pos 1, omega (arith, ints), ap minute_of before ∙ same))
              (λ from. (k, earlier, ap minute_of (a.same k from (omega (arith, ints, earlier, inside.1))) ∙ is));
          greatest = λ j lt. by_lt_z j first
              (λ early.
              let up : minute_of (z.reads j) ≤ℤ minute_of (z.reads (i -ℤ pos 1)) = minute_rises (z.reads j) (z.reads (i -ℤ pos 1)) (a.below j i early inside).0 in
              let same : minute_of (z.reads (i -ℤ pos 1)) ≡ minute_of (t.reads (i -ℤ pos 1)) = ap minute_of before in
              omega (arith, ints, up, same, last_one))
              (λ from. subst (λ (w : ℤ). minute_of w ≤ℤ r) (sym (a.same j from (omega (arith, ints, lt, inside.1)))) (g.greatest j lt));
        }

    starts_for : (job : CronJob) (minutes : List ℤ) → StartsFor job t i minutes → StartsFor job z i minutes
    starts_for job minutes h = record {
      turns = λ e. h.turns (ap minute_of (sym here) ∙ e ∙ ap minute_of before);
      before = h.before;
      greatest = greatest h.before h.greatest;
      due = subst (λ (w : ℤ). AreNamed job.names (due_after job.starred h.before (minute_of w)) (minute_of w) minutes) (sym here) h.due;
    }

    starts_times : (job : CronJob) (n : ℕ) → StartsTimes job t i n → StartsTimes job z i n
    starts_times job n (minutes, for, count) = (minutes, starts_for job minutes for, count)

    starts : (job : CronJob) → Starts job t i → Starts job z i
    starts job (n, some, times) = (n, some, starts_times job n times)

  counted : (z t : Zone) → SameMinutes z t → (job : CronJob) (direction : Direction) (s i : ℤ) → IsWellIn tz first last i
      → CountsFrom direction (Starts job t) s i → CountsFrom direction (Starts job z) s i
  counted z t a job Forward s i inside h = (h.0, starts z t a i inside job h.1)
  counted z t a job Backward s i inside h = (h.0, starts z t a i inside job h.1)

  ahead : (z : Zone) (job : CronJob) (direction : Direction) (s i : ℤ) → CountsFrom direction (Starts job z) s i → Reaches direction s i
  ahead z job Forward s i h = omega (arith, ints, h.0)
  ahead z job Backward s i h = omega (arith, ints, h.0)

  pub same_starts : (z t : Zone) → SameMinutes z t → (job : CronJob) (direction : Direction) (s : ℤ) → IsWellIn tz first last s
      → SameWell tz first last direction s (CountsFrom direction (Starts job t) s) (CountsFrom direction (Starts job z) s)
  same_starts z t a job direction s inside = record {
    start = inside;
    to = λ i well h. counted z t a job direction s i well h;
    back = λ i well h. counted t z (same_back z t a) job direction s i well h;
    from = λ i h. ahead z job direction s i h;
  }

  pub times_to : (z t : Zone) → SameMinutes z t → (i : ℤ) → IsWellIn tz first last i → (job : CronJob) (n : ℕ) → StartsTimes job t i n → StartsTimes job z i n
  times_to z t a i inside job n h = starts_times z t a i inside job n h

  pub times_back : (z t : Zone) → SameMinutes z t → (i : ℤ) → IsWellIn tz first last i → (job : CronJob) (n : ℕ) → StartsTimes job z i n → StartsTimes job t i n
  times_back z t a i inside job n h = starts_times t z (same_back z t a) i inside job n h

-- ---- the clock of a window and its zone

-- a table's own offsets are at most a day
table_bound : (table : ClockTable) (i : ℤ) → ((i -ℤ pos offset_limit) ≤ℤ (table_zone table).reads i) × ((table_zone table).reads i ≤ℤ (i +ℤ pos offset_limit))
unfolding clock
table_bound table i =
    let o = calm_offset table.first_offset table.changes.items i table.calm in
    (omega (arith, ints, o), omega (arith, ints, o))

-- before a window the zone shows at most what is a day before the second before one that is well in it
earlier_reading : (tz : TimeZone) (first last i k : ℤ) → i <ℤ first → IsWellIn tz first last k → (zoned_zone tz).reads i ≤ℤ (k -ℤ pos 1 -ℤ pos offset_limit)
unfolding zoned_zone
earlier_reading tz first last i k early (inl far, high) = omega (arith, ints, offset_within tz (nanos_of_seconds (nearest_timestamp i)), early, far)
earlier_reading tz first last i k early (inr far, high) =
    let o : offset_at tz (nanos_of_seconds (nearest_timestamp i)) ≤ℤ pos 86_400 = far.0 (nearest_timestamp i) in
    omega (arith, ints, o, early, far.1)

pub same_minutes : (tz : TimeZone) (first last : ℤ) (table : ClockTable) → IsClockOf tz first last (table_zone table) → SameMinutes tz first last (zoned_zone tz) (table_zone table)
same_minutes tz first last table c =
    let shown = alike tz first last table c in
    record {
      same = shown.same;
      below = λ i k early inside.
          let far = two_days_in tz first last k inside in
          let here = shown.same (k -ℤ pos 1) (omega (arith, ints, far)) (omega (arith, ints, inside.1)) in
          let low = table_bound table (k -ℤ pos 1) in
          let high = table_bound table i in
          let other = earlier_reading tz first last i k early inside in
          (omega (arith, ints, here, low, other), omega (arith, ints, low, high, early, far));
    }
