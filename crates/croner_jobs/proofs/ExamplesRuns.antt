-- Worked rows of the runs of jobs.
use Rattle.std.proofs.Common.{◌≡◌, refl, ℕ, ℤ, pos, ◌+ℤ◌, ◌-ℤ◌, arith, inr}
use Rattle.std.proofs.lemmas.Int.{ints}
use Rattle.croner.specs.Zone.{Zone}
use Rattle.croner_jobs.specs.Runs.{IsNth, interval_runs, window_runs, later_runs, either_runs}
use Rattle.croner_jobs.specs.Served.{IsServed, first_served, last_served}

-- each midnight of UTC
abbrev midnights : Zone → ℤ → Type 0
midnights z i = IsNth (pos 0) 86_400 i

module _ (z : Zone) where
  -- every 90 minutes from 2024-04-02T04:00:00 on: at 05:30, not at 04:30, not before
  every_90_minutes : interval_runs (pos 1_712_030_400) 5_400 z (pos 1_712_035_800)
  every_90_minutes = ((1, refl), (omega (arith, ints), omega (arith, ints)))

  not_between : interval_runs (pos 1_712_030_400) 5_400 z (pos 1_712_032_200) → ⊥
  not_between run = omega (arith, ints, run.0.1)

  not_before : interval_runs (pos 1_712_030_400) 5_400 z (pos 1_712_025_000) → ⊥
  not_before run = omega (arith, ints, run.0.1)

  -- each midnight of July 2024: that of the 1st, not that of 1 August
  in_july : window_runs (pos 1_719_792_000) (pos 1_722_470_399) midnights z (pos 1_719_792_000)
  in_july = (((19_905, refl), (omega (arith, ints), omega (arith, ints))), (omega (arith, ints), omega (arith, ints)))

  not_in_august : window_runs (pos 1_719_792_000) (pos 1_722_470_399) midnights z (pos 1_722_470_400) → ⊥
  not_in_august run = omega (arith, ints, run.0.1)

  -- each midnight, 17 minutes later: at 00:17, not at 00:00
  at_17_past : later_runs 1_020 midnights z (pos 1_719_793_020)
  at_17_past = ((19_905, refl), (omega (arith, ints), omega (arith, ints)))

  not_at_midnight : later_runs 1_020 midnights z (pos 1_719_792_000) → ⊥
  not_at_midnight run = omega (arith, ints, run.0.1)

  -- both: at midnight and at 05:30 of 2 April
  at_either : either_runs midnights (interval_runs (pos 1_712_030_400) 5_400) z (pos 1_712_035_800)
  at_either = (inr every_90_minutes, (omega (arith, ints), omega (arith, ints)))

  -- the last second of year 2 and the first of year 4999 aren't served
  not_served : (IsServed (first_served -ℤ pos 1) → ⊥) × (IsServed (last_served +ℤ pos 1) → ⊥)
  not_served = (λ is. omega (arith, ints, is), λ is. omega (arith, ints, is))
