-- The search over the stretches of a clock: what is known before each, and what a step makes of it.
use Rattle.std.proofs.Common.{◌≡◌, inl, inr, ◌∙◌, subst, ap, arith, true, ◌+◌, ◌<◌, ◌≤◌, ℕ, ℤ, pos, ◌+ℤ◌, ◌≤ℤ◌, ◌<ℤ◌, length}
use Rattle.std.proofs.lemmas.Int.{ints, by_lt_z}
use Rattle.croner_base.specs.declared.time.Direction.TheVariants.{Forward, Backward}
use Rattle.croner_base.specs.declared.time.table.ClockTable.{ClockTable}
use Rattle.croner_base.specs.declared.time.table.TableTime.{TableTime}
use Rattle.croner_base.specs.Table.{is_table_second}
use Rattle.croner_base.specs.TableZone.{table_zone, table_moment}
use Rattle.croner.specs.search.Limit.{InSpan}
use Rattle.crontab_runs.specs.declared.job.Start.{Start}
use Rattle.crontab_runs.specs.declared.stretch.Stretch.{Stretch}
use Rattle.crontab_runs.specs.Starts.{CronJob, Starts}
use Rattle.crontab_runs.specs.Searches.{IsStartOf, IsStartFound, NoStartLeft}
use Rattle.crontab_runs.specs.Private.Onward.{IsNextStretch, IsStretchBefore}
use Rattle.crontab_runs.specs.Private.Parts.{IsNearestStart}
use Rattle.crontab_runs.specs.Private.Steps.{InStretch, FromStretch, GoesOn}
use Rattle.crontab_runs.specs.Private.Stretches.{begin_of, end_of}
use Rattle.crontab_runs.proofs.TableStretches.{nat_cases, end_last, begin_next, begins_in_order, table_stretch}

module _ (job : CronJob) (t : TableTime) (table : ClockTable) (s : Stretch) (from : ℤ) (same_table : table ≡ t.table.now) (on_table : s.table.now ≡ table) where
  own_table : s.table.now ≡ t.table.now
  own_table = on_table ∙ same_table

  module _ (second : from ≡ t.second +ℤ pos 1) (none : (i : ℤ) → t.second <ℤ i → i <ℤ s.begin → Starts job (table_zone table) i → ⊥) where
    none_yet : (i : ℤ) → t.second <ℤ i → i <ℤ s.begin → Starts job (table_zone t.table.now) i → ⊥
    none_yet = subst (λ (x : ClockTable). (i : ℤ) → t.second <ℤ i → i <ℤ s.begin → Starts job (table_zone x) i → ⊥) same_table none

    pub found_forward : (start : Start) → ((i : ℤ) → Starts job (table_zone t.table.now) i → is_table_second i ≡ true)
        → IsNearestStart Forward job (table_zone s.table.now) (InStretch Forward s from) start.second × IsStartOf job (table_zone s.table.now) start → IsStartFound Forward job (table_moment t) start
    found_forward start held found =
        let (near, is) = subst (λ (x : ClockTable). IsNearestStart Forward job (table_zone x) (InStretch Forward s from) start.second × IsStartOf job (table_zone x) start) own_table found in
        record {
          nearest = record {
            counts = (omega (arith, ints, near.counts.0.2, second), near.counts.1);
            nearest = λ j (after, starts). by_lt_z j s.begin (λ lt. absurd (none_yet j after lt starts))
                (λ ge. by_lt_z j s.end (λ inside. near.nearest j ((ge, inside, omega (arith, ints, after, second)), starts)) (λ beyond. omega (arith, ints, near.counts.0.1, beyond)));
          };
          is = is;
          held = held start.second near.counts.1;
        }

    pub over_forward : ((i : ℤ) → FromStretch Forward s from i → InSpan Forward (table_zone s.table.now).reads i → Starts job (table_zone s.table.now) i → ⊥) → NoStartLeft Forward job (table_moment t)
    over_forward over =
        let here = subst (λ (x : ClockTable). (i : ℤ) → FromStretch Forward s from i → InSpan Forward (table_zone x).reads i → Starts job (table_zone x) i → ⊥) own_table over in
        λ i span (after, starts). by_lt_z i s.begin (λ lt. none_yet i after lt starts) (λ ge. here i (ge, omega (arith, ints, after, second)) span starts)

    none_in : GoesOn Forward job s from → (i : ℤ) → t.second <ℤ i → i <ℤ s.end → Starts job (table_zone t.table.now) i → ⊥
    none_in on i after lt starts =
        let here = subst (λ (x : ClockTable). (i : ℤ) → InStretch Forward s from i → Starts job (table_zone x) i → ⊥) own_table on.none in
        by_lt_z i s.begin (λ less. none_yet i after less starts) (λ ge. here i (ge, lt, omega (arith, ints, after, second)) starts)

    module _ (n : ℕ) (le : n ≤ length table.changes.items) (end_is : s.end ≡ end_of table.changes.items n) (on : GoesOn Forward job s from) where
      -- after the last stretch the searched years are over
      pub not_last : n + 1 ≤ length table.changes.items
      not_last = elim (nat_cases n (length table.changes.items)) [
        | inl lt ↦ omega (arith, lt)
        | inr last ↦ absurd (omega (arith, ints, on.within, end_is, end_last table.changes.items n last, s.fits.offset_low))
      ]

      module _ (next : ℕ) (is : IsNextStretch job table (n + 1) next) where
        pub reached_next : from <ℤ end_of table.changes.items n → from <ℤ end_of table.changes.items next
        reached_next h =
            omega (arith, ints, h, begin_next table.changes.items n (omega (arith, not_last)), begins_in_order table (n + 1) next is.on is.within, (table_stretch table next is.within).order)

        pub none_next : (i : ℤ) → t.second <ℤ i → i <ℤ begin_of table.changes.items next → Starts job (table_zone table) i → ⊥
        none_next i after lt starts = by_lt_z i (begin_of table.changes.items (n + 1))
            (λ here.
            none_in on i after (omega (arith, ints, here, begin_next table.changes.items n (omega (arith, not_last)), end_is)) (subst (λ (x : ClockTable). Starts job (table_zone x) i) same_table starts))
            (λ later. is.none i later lt starts)

  module _ (until : from ≡ t.second) (none : (i : ℤ) → i ≤ℤ t.second → s.end ≤ℤ i → Starts job (table_zone table) i → ⊥) where
    none_past : (i : ℤ) → i ≤ℤ t.second → s.end ≤ℤ i → Starts job (table_zone t.table.now) i → ⊥
    none_past = subst (λ (x : ClockTable). (i : ℤ) → i ≤ℤ t.second → s.end ≤ℤ i → Starts job (table_zone x) i → ⊥) same_table none

    pub found_backward : (start : Start) → ((i : ℤ) → Starts job (table_zone t.table.now) i → is_table_second i ≡ true)
        → IsNearestStart Backward job (table_zone s.table.now) (InStretch Backward s from) start.second × IsStartOf job (table_zone s.table.now) start → IsStartFound Backward job (table_moment t) start
    found_backward start held found =
        let (near, is) = subst (λ (x : ClockTable). IsNearestStart Backward job (table_zone x) (InStretch Backward s from) start.second × IsStartOf job (table_zone x) start) own_table found in
        record {
          nearest = record {
            counts = (omega (arith, ints, near.counts.0.2, until), near.counts.1);
            nearest = λ j (upto, starts). by_lt_z j s.end
                (λ lt. by_lt_z j s.begin (λ beyond. omega (arith, ints, near.counts.0.0, beyond)) (λ inside. near.nearest j ((inside, lt, omega (arith, ints, upto, until)), starts)))
                (λ ge. absurd (none_past j upto ge starts));
          };
          is = is;
          held = held start.second near.counts.1;
        }

    pub over_backward : ((i : ℤ) → FromStretch Backward s from i → InSpan Backward (table_zone s.table.now).reads i → Starts job (table_zone s.table.now) i → ⊥) → NoStartLeft Backward job (table_moment t)
    over_backward over =
        let here = subst (λ (x : ClockTable). (i : ℤ) → FromStretch Backward s from i → InSpan Backward (table_zone x).reads i → Starts job (table_zone x) i → ⊥) own_table over in
        λ i span (upto, starts). by_lt_z i s.end (λ lt. here i (lt, omega (arith, ints, upto, until)) span starts) (λ ge. none_past i upto ge starts)

    none_back : GoesOn Backward job s from → (i : ℤ) → i ≤ℤ t.second → s.begin ≤ℤ i → Starts job (table_zone t.table.now) i → ⊥
    none_back on i upto ge starts =
        let here = subst (λ (x : ClockTable). (i : ℤ) → InStretch Backward s from i → Starts job (table_zone x) i → ⊥) own_table on.none in
        by_lt_z i s.end (λ lt. here i (ge, lt, omega (arith, ints, upto, until)) starts) (λ more. none_past i upto more starts)

    module _ (n : ℕ) (le : n ≤ length table.changes.items) (begin_is : s.begin ≡ begin_of table.changes.items n) (on : GoesOn Backward job s from) where
      -- before the first stretch the searched years are over
      pub not_first : 0 < n
      not_first = elim (nat_cases 0 n) [
        | inl lt ↦ lt
        | inr last ↦
            let zero : n ≡ 0 = omega (arith, last) in
            let first = begin_is ∙ ap (begin_of table.changes.items) zero in
            absurd (omega (arith, ints, on.within, first, s.fits.offset_high))
      ]

      module _ (before : ℕ) (is : IsStretchBefore job table n before) where
        pub reached_before : begin_of table.changes.items n ≤ℤ from → begin_of table.changes.items before ≤ℤ from
        reached_before h = omega (arith, ints, h, begins_in_order table before n (omega (arith, is.on)) le)

        pub none_before : (i : ℤ) → i ≤ℤ t.second → end_of table.changes.items before ≤ℤ i → Starts job (table_zone table) i → ⊥
        none_before i upto ge starts = by_lt_z i (begin_of table.changes.items n)
            (λ earlier. is.none i ge earlier starts)
            (λ here. none_back on i upto (omega (arith, ints, here, begin_is)) (subst (λ (x : ClockTable). Starts job (table_zone x) i) same_table starts))
