-- The search for a start after the first second of a stretch, by the nearest named minute.
use Rattle.std.proofs.Common.{◌≡◌, ◌⊎◌, inl, inr, ◌∙◌, subst, refl, arith, Bool, true, false, ℤ, pos, ◌+ℤ◌, ◌-ℤ◌, ◌*ℤ◌, ◌<ℤ◌, ◌≤ℤ◌, lit<}
use Rattle.std.proofs.lemmas.Int.{ints, int_max_is}
use Rattle.croner_base.specs.declared.time.Direction.{Direction}
use Rattle.croner_base.specs.declared.time.Direction.TheVariants.{Forward, Backward}
use Rattle.croner_base.specs.Zone.{Zone}
use Rattle.croner_pattern.specs.Directions.{Reaches}
use Rattle.croner_pattern.specs.Meaning.{Meaning}
use Rattle.croner.specs.search.Limit.{IsWithin}
use Rattle.crontab_runs.specs.Starts.{minute_of, cron_job, NamesMinute, StartsTimes, Starts}
use Rattle.crontab_runs.specs.Private.Nearest.{NoneNamed, IsNearestNamed}
use Rattle.crontab_runs.specs.Private.Parts.{least_minute, minute_from, IsAfterBegin, NoStart, IsNearestStart}
use Rattle.crontab_runs.specs.Private.Stretches.{IsStretch}
use Rattle.crontab_runs.proofs.DueMinutes.{minute_bounds}
use Rattle.crontab_runs.proofs.StretchStarts.{starts_inside, minute_start}

module _ (begin o before : ℤ) where
  least_fresh : (starred : Bool) (m : ℤ) → (begin +ℤ o) <ℤ (m *ℤ pos 60) → (starred ≡ true) ⊎ (minute_of before <ℤ m) → least_minute starred begin o before ≤ℤ m
  least_fresh true m h fresh = omega (arith, ints, minute_bounds (begin +ℤ o))
  least_fresh false m h (inl e) = absurd (cc)
  least_fresh false m h (inr new) = omega (arith, ints, minute_bounds (begin +ℤ o), int_max_is (minute_of (begin +ℤ o) +ℤ pos 1) (minute_of before +ℤ pos 1))

  least_begins : (starred : Bool) (m : ℤ) → least_minute starred begin o before ≤ℤ m → (begin +ℤ o) <ℤ (m *ℤ pos 60)
  least_begins true m h = omega (arith, ints, minute_bounds (begin +ℤ o))
  least_begins false m h = omega (arith, ints, minute_bounds (begin +ℤ o), int_max_is (minute_of (begin +ℤ o) +ℤ pos 1) (minute_of before +ℤ pos 1))

  least_new : (starred : Bool) (m : ℤ) → least_minute starred begin o before ≤ℤ m → (starred ≡ true) ⊎ (minute_of before <ℤ m)
  least_new true m h = inl refl
  least_new false m h = inr (omega (arith, ints, int_max_is (minute_of (begin +ℤ o) +ℤ pos 1) (minute_of before +ℤ pos 1)))

-- a minute that begins at or after an instant is met from the minute of that instant
minute_met : (direction : Direction) (from o least i m : ℤ) → i +ℤ o ≡ m *ℤ pos 60 → Reaches direction from i → least ≤ℤ m → Reaches direction (minute_from direction (from +ℤ o) least) m
minute_met Forward from o least i m e h low = omega (arith, ints, minute_bounds (from +ℤ o +ℤ pos 59), int_max_is (minute_of (from +ℤ o +ℤ pos 59)) least)
minute_met Backward from o least i m e h low = omega (arith, ints, minute_bounds (from +ℤ o))

met_minute : (direction : Direction) (from o least k : ℤ) → Reaches direction (minute_from direction (from +ℤ o) least) k → Reaches direction from (k *ℤ pos 60 -ℤ o)
met_minute Forward from o least k h = omega (arith, ints, minute_bounds (from +ℤ o +ℤ pos 59), int_max_is (minute_of (from +ℤ o +ℤ pos 59)) least)
met_minute Backward from o least k h = omega (arith, ints, minute_bounds (from +ℤ o))

-- minutes go on as the instants at which they begin
instants_reach : (direction : Direction) (o k m i : ℤ) → Reaches direction k m → i +ℤ o ≡ m *ℤ pos 60 → Reaches direction (k *ℤ pos 60 -ℤ o) i
instants_reach Forward o k m i h e = omega (arith, ints)
instants_reach Backward o k m i h e = omega (arith, ints)

-- where the nearest minute begins outside of a stretch, or lies before the least, none that is met lies in the stretch
out_of_stretch : (direction : Direction) (from o least end k m i : ℤ) → Reaches direction (minute_from direction (from +ℤ o) least) k → Reaches direction k m
    → i +ℤ o ≡ m *ℤ pos 60 → least ≤ℤ m → i <ℤ end → from <ℤ end → (k <ℤ least) ⊎ (end ≤ℤ (k *ℤ pos 60 -ℤ o)) → ⊥
out_of_stretch Forward from o least end k m i on next e above high here (inl low) = omega (arith, ints, int_max_is (minute_of (from +ℤ o +ℤ pos 59)) least)
out_of_stretch Forward from o least end k m i on next e above high here (inr late) = omega (arith, ints)
out_of_stretch Backward from o least end k m i on next e above high here (inl low) = omega (arith, ints)
out_of_stretch Backward from o least end k m i on next e above high here (inr late) = omega (arith, ints, minute_bounds (from +ℤ o))

module _ (z : Zone) (begin end o before : ℤ) (s : IsStretch z begin end o before) (meaning : Meaning) (starred : Bool) (direction : Direction) (from : ℤ) where
  abbrev least : ℤ
  least = least_minute starred begin o before

  abbrev start : ℤ
  start = minute_from direction (from +ℤ o) least

  -- a start is one of a minute that the search meets
  start_met : (i : ℤ) → IsAfterBegin direction begin end from i → Starts (cron_job meaning starred) z i
      → (m : ℤ) × (i +ℤ o ≡ m *ℤ pos 60) × (least ≤ℤ m) × Reaches direction start m × NamesMinute meaning m
  start_met i (low, high, on) starts =
      let (m, is) = starts_inside z begin end o before s (cron_job meaning starred) i low high starts in
      let above = least_fresh begin o before starred m (omega (arith, ints, is.shown)) is.fresh in
      (m, is.shown, above, minute_met direction from o least i m is.shown on above, is.named)

  -- where no minute is named on, nothing is started
  pub none_inside : NoneNamed direction meaning start → NoStart direction (cron_job meaning starred) z (IsAfterBegin direction begin end from)
  none_inside none = λ i after within starts.
      let (m, shown, above, on, named) = start_met i after starts in
      let same : z.reads i ≡ m *ℤ pos 60 = s.steady i (omega (arith, ints, after.0)) after.1 ∙ shown in
      none m on (subst (IsWithin direction) same within) named

  module _ (k : ℤ) (near : IsNearestNamed direction meaning start k) where
    -- the nearest named minute is started where it begins, if that is in the stretch and after its first second
    pub nearest_inside : least ≤ℤ k → (k *ℤ pos 60 -ℤ o) <ℤ end
        → IsNearestStart direction (cron_job meaning starred) z (IsAfterBegin direction begin end from) (k *ℤ pos 60 -ℤ o)
        × StartsTimes (cron_job meaning starred) z (k *ℤ pos 60 -ℤ o) 1
    nearest_inside above high =
        let i : ℤ = k *ℤ pos 60 -ℤ o in
        let low : begin <ℤ i = omega (arith, ints, least_begins begin o before starred k above) in
        let times = minute_start z begin end o before s (cron_job meaning starred) i k low high (record { shown = omega (arith, ints); named = near.counts.1; fresh = least_new begin o before starred k above }) in (
          record {
            counts = ((low, high, met_minute direction from o least k near.counts.0), (1, lit< tt, times));
            nearest = λ j (after, starts).
                let (m, shown, over, on, named) = start_met j after starts in
                instants_reach direction o k m j (near.nearest m (on, named)) shown;
          },
          times,
        )

    -- and else nothing is
    pub nothing_inside : from <ℤ end → (k <ℤ least) ⊎ (end ≤ℤ (k *ℤ pos 60 -ℤ o)) → NoStart direction (cron_job meaning starred) z (IsAfterBegin direction begin end from)
    nothing_inside here out = λ i after within starts.
        let (m, shown, above, on, named) = start_met i after starts in
        out_of_stretch direction from o least end k m i near.counts.0 (near.nearest m (on, named)) shown above after.1 here out
