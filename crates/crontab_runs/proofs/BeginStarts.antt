-- What cron starts at the first second of a stretch, by the count of what is due.
use Rattle.std.proofs.Common.{◌≡◌, ◌∙◌, sym, ap, arith, Bool, ℕ, ℤ, pos, neg_ℤ, ◌+ℤ◌, ◌≤ℤ◌, w64, to_z, of_z, FitsSigned}
use Rattle.std.proofs.lemmas.Int.{ints, to_z-of_z}
use Rattle.croner_base.specs.TableZone.{table_zone}
use Rattle.croner_base.specs.Zone.{Zone}
use Rattle.crontab_runs.specs.declared.stretch.Stretch.{Stretch}
use Rattle.crontab_runs.specs.Starts.{minute_of, due_after, CronJob}
use Rattle.crontab_runs.specs.Private.Due.{IsNamedCount, AreStarts}
use Rattle.crontab_runs.specs.Private.Stretches.{far, IsStretch}
use Rattle.crontab_runs.proofs.DueMinutes.{minute_bounds, due_near, due_order}
use Rattle.crontab_runs.proofs.StretchStarts.{some_named, starts_at_begin, begin_starts}

module _ (z : Zone) (begin end o before : ℤ) (s : IsStretch z begin end o before) where
  -- its numbers are small
  pub shown_bounds : ((neg_ℤ (pos far) +ℤ pos 180) ≤ℤ minute_of before) × (minute_of before ≤ℤ pos far)
  shown_bounds = (omega (arith, ints, minute_bounds before, s.before_low), omega (arith, ints, minute_bounds before, s.before_high))

  pub minute_small : ((neg_ℤ (pos far) +ℤ pos 180) ≤ℤ minute_of (begin +ℤ o)) × (minute_of (begin +ℤ o) ≤ℤ pos far)
  minute_small = (omega (arith, ints, minute_bounds (begin +ℤ o), s.begin_low, s.offset_low), omega (arith, ints, minute_bounds (begin +ℤ o), s.order, s.end_high, s.offset_high))

  pub sum_fits : FitsSigned w64 (begin +ℤ o)
  sum_fits = omega (arith, ints, s.begin_low, s.order, s.end_high, s.offset_low, s.offset_high)

  -- where the same minute is shown nothing is started
  pub same_minute : (job : CronJob) → minute_of (begin +ℤ o) ≡ minute_of before → AreStarts job z begin 0
  same_minute job same = record {
    times = λ h. absurd (omega arith);
    none = λ _ (n, some, (minutes, starts, count)). (begin_starts z begin end o before s job minutes starts).0 same;
  }

  -- and else what is due is started
  pub counted_starts : (job : CronJob) (count : ℕ) → (minute_of (begin +ℤ o) ≡ minute_of before → ⊥)
      → IsNamedCount job.names (due_after job.starred (minute_of before) (minute_of (begin +ℤ o))) (minute_of (begin +ℤ o)) count → AreStarts job z begin count
  counted_starts job count other (minutes, all, long) = record {
    times = λ _. (minutes, starts_at_begin z begin end o before s job minutes other all, long);
    none = λ zero (n, some, (more, starts, times)).
        let due = (begin_starts z begin end o before s job more starts).1 in
        let (k, low, high, named) = some_named job.names _ _ more due (omega (arith, some, times)) in
        let (place, within, is) = all.complete k low high named in
        omega (arith, within, long, zero);
  }

-- ---- as the code has them

module _ (t : Stretch) where
  abbrev of_table : Zone
  of_table = table_zone t.table.now

  bounds : IsStretch of_table t.begin t.end t.offset t.before
  bounds = t.fits

  pub shown_found : (a : ℤ) → a ≡ minute_of (to_z w64 (of_z w64 t.before)) → (a ≡ minute_of t.before) × (to_z w64 (of_z w64 a) ≡ minute_of t.before)
  shown_found a e =
      let b = shown_bounds of_table t.begin t.end t.offset t.before t.fits in
      let before : FitsSigned w64 t.before = omega (arith, ints, t.fits.before_low, t.fits.before_high) in
      let is : a ≡ minute_of t.before = e ∙ ap minute_of (to_z-of_z w64 t.before before) in
      let fits : FitsSigned w64 a = omega (arith, ints, is, b) in
      (is, to_z-of_z w64 a fits ∙ is)

  pub minute_found : (a : ℤ) → a ≡ minute_of (to_z w64 (of_z w64 (to_z w64 (of_z w64 t.begin) +ℤ to_z w64 (of_z w64 t.offset)))) → (a ≡ minute_of (t.begin +ℤ t.offset)) × (to_z w64 (of_z w64 a) ≡ minute_of (t.begin +ℤ t.offset))
  minute_found a e =
      let b = minute_small of_table t.begin t.end t.offset t.before t.fits in
      let begin : FitsSigned w64 t.begin = omega (arith, ints, t.fits.begin_low, t.fits.order, t.fits.end_high) in
      let offset : FitsSigned w64 t.offset = omega (arith, ints, t.fits.offset_low, t.fits.offset_high) in
      let sum = sum_fits of_table t.begin t.end t.offset t.before t.fits in
      let is : a ≡ minute_of (t.begin +ℤ t.offset) = simp to_z-of_z at e in
      let fits : FitsSigned w64 a = omega (arith, ints, is, b) in
      (is, to_z-of_z w64 a fits ∙ is)

  pub due_found : (starred : Bool) (a b d : ℤ) → a ≡ minute_of (to_z w64 (of_z w64 t.before))
      → b ≡ minute_of (to_z w64 (of_z w64 (to_z w64 (of_z w64 t.begin) +ℤ to_z w64 (of_z w64 t.offset))))
      → d ≡ due_after starred (to_z w64 (of_z w64 a)) (to_z w64 (of_z w64 b)) → to_z w64 (of_z w64 d) ≡ due_after starred (minute_of t.before) (minute_of (t.begin +ℤ t.offset))
  due_found starred a b d e f g =
      let r : ℤ = minute_of t.before in
      let m : ℤ = minute_of (t.begin +ℤ t.offset) in
      let is : d ≡ due_after starred r m = g ∙ ap (λ (x : ℤ). due_after starred x (to_z w64 (of_z w64 b))) (shown_found a e).1 ∙ ap (due_after starred r) (minute_found b f).1 in
      let fits : FitsSigned w64 d = omega (arith, ints, is, due_order starred r m, due_near starred r m, minute_small of_table t.begin t.end t.offset t.before t.fits) in
      to_z-of_z w64 d fits ∙ is

  -- from minutes that differ
  pub other_minute : (a b : ℤ) → a ≡ minute_of (to_z w64 (of_z w64 t.before))
      → b ≡ minute_of (to_z w64 (of_z w64 (to_z w64 (of_z w64 t.begin) +ℤ to_z w64 (of_z w64 t.offset)))) → (of_z w64 b ≡ of_z w64 a → ⊥) → minute_of (t.begin +ℤ t.offset) ≡ minute_of t.before → ⊥
  other_minute a b e f differ same = differ (ap (of_z w64) ((minute_found b f).0 ∙ same ∙ sym (shown_found a e).0))
