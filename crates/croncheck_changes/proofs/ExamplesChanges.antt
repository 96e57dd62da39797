-- Worked values of the definitions of changes of a clock.
use Rattle.std.proofs.Common.{◌≡◌, ℕ, ◌*◌, Bool, pos, ◌+ℤ◌, ◌-ℤ◌, true, false, refl}
use Rattle.std.specs.Prelude.{codes}
use Rattle.croncheck_changes.specs.declared.changes.Change.{Change}
use Rattle.croncheck_changes.specs.declared.changes.Fate.{Fate}
use Rattle.croncheck_changes.specs.declared.changes.Fate.TheVariants as fates
use Rattle.croncheck_changes.specs.declared.changes.Meeting.{Meeting}
use Rattle.croncheck_changes.specs.declared.changes.Range.TheVariants as ranges
use Rattle.croncheck_changes.specs.declared.changes.meetings.Met.{Met}
use Rattle.croncheck_changes.specs.Changes.{fate_in_cron, fate_with_all_hours, is_starless, is_warned, name_of}
use Rattle.croncheck_runs.specs.declared.runs.Runner.TheVariants as runners

-- the clock of Stockholm goes from 02:00 on 2025-03-30 on by so many seconds, and from 03:00 on 2025-10-26 back to 02:00
abbrev forward_by : ℕ → Change
forward_by seconds = record { instant = pos 1_743_296_400; before = pos 1_743_300_000; after = pos 1_743_300_000 +ℤ pos seconds }

abbrev back : Change
back = record { instant = pos 1_761_440_400; before = pos 1_761_447_600; after = pos 1_761_444_000 }

-- what becomes of the run at 02:00 there
abbrev in_spring : ℕ → Fate → Meeting
in_spring seconds fate = record { change = forward_by seconds; range = ranges.Gap; second = pos 1_743_300_000; fate = fate }

abbrev in_autumn : Fate → Meeting
in_autumn fate = record { change = back; range = ranges.Repeated; second = pos 1_761_444_000; fate = fate }

abbrev alone : Meeting → Met
alone meeting = record { meeting = meeting; is_due_beside = false }

abbrev around : Meeting → Met
around meeting = record { meeting = meeting; is_due_beside = true }

a_run_left_out : is_warned (alone (in_spring 3_600 fates.LeftOut)) ≡ true
a_run_left_out = refl

a_run_moved : is_warned (alone (in_spring 3_600 fates.Moved)) ≡ false
a_run_moved = refl

a_run_made_twice : is_warned (alone (in_autumn fates.Twice)) ≡ true
a_run_made_twice = refl

a_run_made_once : is_warned (alone (in_autumn fates.Once)) ≡ false
a_run_made_once = refl

-- the same of a job that is due beside the range
a_run_left_out_of_many : is_warned (around (in_spring 3_600 fates.LeftOut)) ≡ false
a_run_left_out_of_many = refl

a_run_made_twice_of_many : is_warned (around (in_autumn fates.Twice)) ≡ false
a_run_made_twice_of_many = refl

-- 0 0-23 * * *: all hours are named, so it is due beside the range; cron waits for a new minute with it, and with 0 * * * * it doesn't
a_job_of_all_hours : (fate_with_all_hours true (fate_in_cron false ranges.Repeated back (pos 1_761_444_000)) ≡ fates.Paused)
    × (is_warned (around (in_autumn fates.Paused)) ≡ true) × (name_of ranges.Repeated fates.Paused ≡ codes "gap")
a_job_of_all_hours = (refl, refl, refl)

a_job_of_some_hours : fate_with_all_hours false (fate_in_cron false ranges.Repeated back (pos 1_761_444_000)) ≡ fates.Once
a_job_of_some_hours = refl

starless : (is_starless (runners.Cron false) ≡ true) × (is_starless (runners.Cron true) ≡ false) × (is_starless runners.Croner ≡ false)
starless = (refl, refl, refl)

less_than_half_a_day : is_warned (alone (in_spring 43_199 fates.LeftOut)) ≡ true
less_than_half_a_day = refl

half_a_day : is_warned (alone (in_spring 43_200 fates.LeftOut)) ≡ false
half_a_day = refl

-- ---- in cron

-- what becomes of 02:00 where the clock goes on by so many minutes; that of a starred job is left out, but of a gap of four minutes or less
abbrev gap_of : Bool → ℕ → Fate
gap_of starred minutes = fate_in_cron starred ranges.Gap (forward_by (60 * minutes)) (pos 1_743_300_000)

gaps : (gap_of false 60 ≡ fates.Moved) × (gap_of true 60 ≡ fates.LeftOut) × (gap_of true 4 ≡ fates.Moved) × (gap_of true 5 ≡ fates.LeftOut)
    × (gap_of false 179 ≡ fates.Moved) × (gap_of false 180 ≡ fates.LeftOut)
gaps = (refl, refl, refl, refl, refl, refl)

-- what becomes of 02:00 that is shown twice
repeated : (fate_in_cron false ranges.Repeated back (pos 1_761_444_000) ≡ fates.Once) × (fate_in_cron true ranges.Repeated back (pos 1_761_444_000) ≡ fates.Twice)
repeated = (refl, refl)

-- a clock that goes back from 02:01:00 by so many seconds: 02:00 of a starred job is started again where another minute was shown in between
abbrev back_by : ℕ → Change
back_by seconds = record { instant = pos 1_761_440_400; before = pos 1_761_444_060; after = pos 1_761_444_060 -ℤ pos seconds }

back_by_a_minute : (fate_in_cron true ranges.Repeated (back_by 60) (pos 1_761_444_000) ≡ fates.Once)
    × (fate_in_cron true ranges.Repeated (back_by 61) (pos 1_761_444_000) ≡ fates.Twice)
back_by_a_minute = (refl, refl)
