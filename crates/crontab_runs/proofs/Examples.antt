-- What cron starts where the clock changes, computed from the definition, as `table_starts` has it: instants of tables, and how many times.
-- What cron's own loop starts there is what tools/crontab_model.py says.
use Rattle.std.proofs.Common.{◌≡◌, refl, arith, ◌*◌, Bool, true, false, ◌&&◌, ◌==◌, ℕ, ◌%◌, ◌/◌, ℤ, pos, neg_ℤ, List, [], ◌∷◌, length, unsigned_abs, nat_le}
use Rattle.std.proofs.lemmas.Int.{ints}
use Rattle.std.specs.Int.{int_rem_euclid}
use Rattle.std.specs.Ordering.{int_eq}
use Rattle.croner_base.specs.Table.{is_calm_table}
use Rattle.croner_base.specs.TableZone.{clock}
use Rattle.crontab_runs.specs.MadeUp.{MakesUpForNone, MakesUpFrom}
use Rattle.crontab_runs.specs.Starts.{CronJob}
use Rattle.crontab_runs.proofs.MadeUpStarts.{none_at_begin, first_at_begin}
use Rattle.crontab_runs.proofs.TableStarts.{listed, started_at}
use Rattle.crontab_runs.proofs.TableStretches.{stretch_is}

-- a minute and an hour of each day that pass two tests
abbrev daily : (ℕ → Bool) → (ℕ → Bool) → ℤ → Bool
daily minute hour k = let of_day = unsigned_abs (int_rem_euclid k (pos 1440)) in minute (of_day % 60) && hour (of_day / 60)

abbrev each : ℕ → Bool
each n = true

abbrev on : ℕ → ℕ → Bool
on m n = n == m

abbrev on_half : ℕ → Bool
on_half n = n % 30 == 0

-- a clock that is put forward by an hour at 02:00 of 1970-01-01, and one that is put back by an hour at 03:00
abbrev spring : List (ℤ × ℤ)
spring = (pos 7_200, pos 3_600) ∷ []

abbrev autumn : List (ℤ × ℤ)
autumn = (pos 7_200, pos 0) ∷ []

-- what is started in the five hours around them
abbrev in_spring : (ℤ → Bool) → Bool → List (ℤ × ℕ)
in_spring names starred = listed names starred (pos 0) spring (pos 0) 300

abbrev in_autumn : (ℤ → Bool) → Bool → List (ℤ × ℕ)
in_autumn names starred = listed names starred (pos 3_600) autumn (pos 0) 300

calm_tables : (is_calm_table (pos 0) spring ≡ true) × (is_calm_table (pos 3_600) autumn ≡ true)
unfolding is_calm_table
calm_tables = (refl, refl)

-- `0,30 2`: in spring both at the end of the gap; in autumn the first ones alone
half_hours : (in_spring (daily on_half (on 2)) false ≡ (pos 7_200, 2) ∷ [])
    × (in_autumn (daily on_half (on 2)) false ≡ (pos 3_600, 1) ∷ (pos 5_400, 1) ∷ [])
half_hours = (refl, refl)

-- `*/30 2`, which names the same, is starred: in spring not at all; in autumn both times
starred_half_hours : (in_spring (daily on_half (on 2)) true ≡ [])
    × (in_autumn (daily on_half (on 2)) true ≡ (pos 3_600, 1) ∷ (pos 5_400, 1) ∷ (pos 7_200, 1) ∷ (pos 9_000, 1) ∷ [])
starred_half_hours = (refl, refl)

-- `30 2`
half_past_two : (in_spring (daily (on 30) (on 2)) false ≡ (pos 7_200, 1) ∷ []) × (in_autumn (daily (on 30) (on 2)) false ≡ (pos 5_400, 1) ∷ [])
half_past_two = (refl, refl)

-- `15 2-4`
two_to_four : (in_spring (daily (on 15) (λ h. nat_le 2 h && nat_le h 4)) false ≡ (pos 7_200, 1) ∷ (pos 8_100, 1) ∷ (pos 11_700, 1) ∷ [])
    × (in_autumn (daily (on 15) (λ h. nat_le 2 h && nat_le h 4)) false ≡ (pos 4_500, 1) ∷ (pos 11_700, 1) ∷ (pos 15_300, 1) ∷ [])
two_to_four = (refl, refl)

-- `@hourly`, which is starred
hourly : (in_spring (daily (on 0) each) true ≡ (pos 0, 1) ∷ (pos 3_600, 1) ∷ (pos 7_200, 1) ∷ (pos 10_800, 1) ∷ (pos 14_400, 1) ∷ [])
    × (in_autumn (daily (on 0) each) true ≡ (pos 0, 1) ∷ (pos 3_600, 1) ∷ (pos 7_200, 1) ∷ (pos 10_800, 1) ∷ (pos 14_400, 1) ∷ [])
hourly = (refl, refl)

-- `0 0-23`: in spring twice at 03:00, for 02:00 and for itself; in autumn once in the hour that is shown twice
each_hour : (in_spring (daily (on 0) each) false ≡ (pos 0, 1) ∷ (pos 3_600, 1) ∷ (pos 7_200, 2) ∷ (pos 10_800, 1) ∷ (pos 14_400, 1) ∷ [])
    × (in_autumn (daily (on 0) each) false ≡ (pos 0, 1) ∷ (pos 3_600, 1) ∷ (pos 10_800, 1) ∷ (pos 14_400, 1) ∷ [])
each_hour = (refl, refl)

-- `0 0-23/2`
every_other_hour : (in_spring (daily (on 0) (λ h. h % 2 == 0)) false ≡ (pos 0, 1) ∷ (pos 7_200, 1) ∷ (pos 10_800, 1) ∷ [])
    × (in_autumn (daily (on 0) (λ h. h % 2 == 0)) false ≡ (pos 3_600, 1) ∷ (pos 14_400, 1) ∷ [])
every_other_hour = (refl, refl)

-- how many times a job of each minute is started at the end of a gap of so many minutes, starless and starred
abbrev at_gap : ℕ → Bool → ℕ
at_gap minutes starred = length (started_at (daily each each) starred (pos 0) ((pos 7_200, pos (60 * minutes)) ∷ []) (pos 7_200))

-- up to 4 minutes each is made up for, up to 179 no starred one, and from 180 on none
gaps : (at_gap 4 false ≡ 5) × (at_gap 4 true ≡ 5) × (at_gap 5 false ≡ 6) × (at_gap 5 true ≡ 1) × (at_gap 60 false ≡ 61) × (at_gap 60 true ≡ 1)
    × (at_gap 179 false ≡ 180) × (at_gap 179 true ≡ 1) × (at_gap 180 false ≡ 1) × (at_gap 180 true ≡ 1)
gaps = (refl, refl, refl, refl, refl, refl, refl, refl, refl, refl)

-- each half hour of a clock that is put back at 02:00 by so many minutes
abbrev put_back : ℕ → Bool → List (ℤ × ℕ)
put_back minutes starred = listed (daily on_half each) starred (pos (60 * minutes)) autumn (pos 0) 300

-- a starless job waits until the clock shows a new minute
back_by_30 : put_back 30 false ≡ (pos 0, 1) ∷ (pos 1_800, 1) ∷ (pos 3_600, 1) ∷ (pos 5_400, 1) ∷ (pos 9_000, 1) ∷ (pos 10_800, 1) ∷ (pos 12_600, 1) ∷ (pos 14_400, 1) ∷ (pos 16_200, 1) ∷ []
back_by_30 = refl

back_by_60 : put_back 60 false ≡ (pos 0, 1) ∷ (pos 1_800, 1) ∷ (pos 3_600, 1) ∷ (pos 5_400, 1) ∷ (pos 10_800, 1) ∷ (pos 12_600, 1) ∷ (pos 14_400, 1) ∷ (pos 16_200, 1) ∷ []
back_by_60 = refl

back_by_120 : put_back 120 false ≡ (pos 0, 1) ∷ (pos 1_800, 1) ∷ (pos 3_600, 1) ∷ (pos 5_400, 1) ∷ (pos 14_400, 1) ∷ (pos 16_200, 1) ∷ []
back_by_120 = refl

-- and a starred one doesn't
back_starred : put_back 30 true ≡ put_back 120 true
back_starred = refl

-- Monrovia in 1972, where 44 minutes and 30 seconds were skipped: from 23:59:59 to 00:44:30
abbrev monrovia : (ℤ → Bool) → Bool → ℤ → ℕ
monrovia names starred i = length (started_at names starred (neg_ℤ (pos 2_670)) ((pos 63_593_070, pos 0) ∷ []) i)

-- midnight's start comes at 00:44:30, but not that of `*/15`; `44 *` starts there too, and what is named at 00:45 half a minute after it
within_a_minute : (monrovia (daily (on 0) (on 0)) false (pos 63_593_070) ≡ 1)
    × (monrovia (daily (λ m. m % 15 == 0) each) true (pos 63_593_070) ≡ 0)
    × (monrovia (daily (on 44) each) true (pos 63_593_070) ≡ 1)
    × (monrovia (daily (λ m. m % 15 == 0) each) true (pos 63_593_100) ≡ 1)
within_a_minute = (refl, refl, refl, refl)

-- put back by half a minute: within one minute, where no other minute is shown; and from 02:00:10 to 01:59:40
abbrev half_minute : Bool → ℤ → ℤ → ℕ
half_minute starred change i = length (started_at (daily each each) starred (pos 30) ((change, pos 0) ∷ []) i)

half_minutes : (half_minute true (pos 7_170) (pos 7_170) ≡ 0) × (half_minute true (pos 7_170) (pos 7_200) ≡ 1)
    × (half_minute true (pos 7_180) (pos 7_170) ≡ 1) × (half_minute true (pos 7_180) (pos 7_180) ≡ 1) × (half_minute true (pos 7_180) (pos 7_200) ≡ 1)
    × (half_minute false (pos 7_180) (pos 7_170) ≡ 1) × (half_minute false (pos 7_180) (pos 7_180) ≡ 0) × (half_minute false (pos 7_180) (pos 7_200) ≡ 0)
half_minutes = (refl, refl, refl, refl, refl, refl, refl, refl)

-- a gap over midnight, from 23:30 to 00:30: what is named at 23:45 is started at its end by the date of 23:45, not by the one there
over_midnight : (started_at (λ k. int_eq k (pos 1_425)) false (pos 0) ((pos 84_600, pos 3_600) ∷ []) (pos 84_600) ≡ pos 1_425 ∷ [])
    × (started_at (λ k. int_eq k (pos 2_865)) false (pos 0) ((pos 84_600, pos 3_600) ∷ []) (pos 84_600) ≡ [])
over_midnight = (refl, refl)

-- for which minute it is started first there: for 02:00, which is the wall second 7,200
half_hours_of_two : CronJob
half_hours_of_two = record { names = λ k. daily on_half (on 2) k ≡ true; starred = false }

in_place_of_two : MakesUpFrom half_hours_of_two (clock (pos 0) spring) (pos 7_200) (pos 7_200)
unfolding half_hours_of_two
in_place_of_two =
    first_at_begin _ _ _ _ _ (stretch_is (pos 0) spring calm_tables.0 1 (omega arith)) half_hours_of_two (pos 7_200) (λ same. omega (arith, ints, same))
    (record { begins = refl; later = omega (arith, ints); ahead = omega (arith, ints); named = refl; first = λ j low named. omega (arith, ints, low) })

-- a starred one is left out there
half_hours_of_each : CronJob
half_hours_of_each = record { names = λ k. daily on_half each k ≡ true; starred = true }

left_out : MakesUpForNone half_hours_of_each (clock (pos 0) spring) (pos 7_200)
unfolding half_hours_of_each
left_out = none_at_begin _ _ _ _ _ (stretch_is (pos 0) spring calm_tables.0 1 (omega arith)) half_hours_of_each (λ k low high named. omega (arith, ints, low, high))
