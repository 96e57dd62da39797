-- Tables that are accepted and refused, and what their clocks read, computed from the definitions.
use Rattle.std.proofs.Common.{◌≡◌, refl, true, false, ◌+◌, ℤ, pos, neg_ℤ, ◌+ℤ◌, ◌-ℤ◌, ◌*ℤ◌, List, [], ◌∷◌}
use Rattle.jiff_core.specs.Calendar.{days_of_months}
use Rattle.croner_base.specs.declared.time.value.Resolution.TheVariants.{Single, Ambiguous, Gap}
use Rattle.croner_base.specs.Calendar.{day_number, year_start, days_since_zero, day_seconds}
use Rattle.croner_base.specs.Limits.{first_searched, last_searched, gap_limit, fold_limit, apart_limit}
use Rattle.croner_base.specs.Table.{offset_limit, is_calm_table, met_at, met_count, met_gaps}
use Rattle.croner_base.specs.TableZone.{clock_reads, instants_of}

-- the days that are asked about: in 2024 the last Sundays of March and October, and a day of 2011
days : (day_number (pos 2024) 3 31 ≡ pos 19_813) × (day_number (pos 2024) 10 27 ≡ pos 20_023) × (day_number (pos 2011) 12 30 ≡ pos 15_338)
unfolding day_number year_start days_since_zero days_of_months
days = (refl, refl, refl)

-- Paris in 2024
abbrev paris : List (ℤ × ℤ)
paris = (pos 1_711_846_800, pos 7_200) ∷ (pos 1_729_990_800, pos 3_600) ∷ []

paris_accepted : is_calm_table (pos 3_600) paris ≡ true
unfolding is_calm_table
paris_accepted = refl

-- half past two in the gap, at 2024-03-31T02:30:00; twice, at 2024-10-27T02:30:00; and three o'clock of that day once
paris_resolved : (instants_of (pos 3_600) paris (pos 19_813 *ℤ pos day_seconds +ℤ pos 9_000) ≡ Gap)
    × (instants_of (pos 3_600) paris (pos 20_023 *ℤ pos day_seconds +ℤ pos 9_000) ≡ Ambiguous (pos 1_729_989_000) (pos 1_729_992_600))
    × (instants_of (pos 3_600) paris (pos 20_023 *ℤ pos day_seconds +ℤ pos 10_800) ≡ Single (pos 1_729_994_400))
paris_resolved = (refl, refl, refl)

-- the second before a change reads with the offset before it
paris_around : (clock_reads (pos 3_600) paris (pos 1_711_846_799) ≡ pos 1_711_850_399) × (clock_reads (pos 3_600) paris (pos 1_711_846_800) ≡ pos 1_711_854_000)
paris_around = (refl, refl)

-- a repeated range of one second, the second before it, and the one after it
one_second : (instants_of (pos 7_200) ((pos 0, pos 7_199) ∷ []) (pos 7_199) ≡ Ambiguous (neg_ℤ (pos 1)) (pos 0))
    × (instants_of (pos 7_200) ((pos 0, pos 7_199) ∷ []) (pos 7_198) ≡ Single (neg_ℤ (pos 2)))
    × (instants_of (pos 7_200) ((pos 0, pos 7_199) ∷ []) (pos 7_200) ≡ Single (pos 1))
one_second = (refl, refl, refl)

-- a wall second a day after a change is looked for around it, the next one by the offset after it alone: each is read once
a_day_behind : (instants_of (pos 0) ((pos 0, pos 3_600) ∷ []) (pos offset_limit) ≡ Single (pos 82_800))
    × (instants_of (pos 0) ((pos 0, pos 3_600) ∷ []) (pos (offset_limit + 1)) ≡ Single (pos 82_801))
a_day_behind = (refl, refl)

-- offsets of the limit either way, and past it
offsets : (is_calm_table (pos offset_limit) [] ≡ true)
    × (is_calm_table (pos (offset_limit + 1)) [] ≡ false)
    × (is_calm_table (neg_ℤ (pos offset_limit)) [] ≡ true)
    × (is_calm_table (neg_ℤ (pos (offset_limit + 1))) [] ≡ false)
    × (is_calm_table (pos offset_limit) ((pos 0, pos (offset_limit + 1)) ∷ []) ≡ false)
unfolding is_calm_table
offsets = (refl, refl, refl, refl, refl)

-- how far a change moves the clock: forward, back, and not at all
moves : (is_calm_table (pos 0) ((pos 0, pos gap_limit) ∷ []) ≡ true)
    × (is_calm_table (neg_ℤ (pos 1)) ((pos 0, pos gap_limit) ∷ []) ≡ false)
    × (is_calm_table (pos 0) ((pos 0, neg_ℤ (pos fold_limit)) ∷ []) ≡ true)
    × (is_calm_table (pos fold_limit) ((pos 0, neg_ℤ (pos 1)) ∷ []) ≡ false)
    × (is_calm_table (pos 0) ((pos 0, pos 0) ∷ []) ≡ false)
unfolding is_calm_table
moves = (refl, refl, refl, refl, refl)

-- the year 2011 without its 30 December: ten hours behind UTC, and fourteen ahead from the end of the 29th on
abbrev without_a_date : List (ℤ × ℤ)
without_a_date = (pos 1_325_239_200, pos 50_400) ∷ []

without_a_date_accepted : is_calm_table (neg_ℤ (pos 36_000)) without_a_date ≡ true
unfolding is_calm_table
without_a_date_accepted = refl

-- the last second of the 29th is followed by the first of the 31st
without_a_date_reads : (clock_reads (neg_ℤ (pos 36_000)) without_a_date (pos 1_325_239_199) ≡ pos 15_338 *ℤ pos day_seconds -ℤ pos 1)
    × (clock_reads (neg_ℤ (pos 36_000)) without_a_date (pos 1_325_239_200) ≡ pos 15_339 *ℤ pos day_seconds)
without_a_date_reads = (refl, refl)

-- no instant reads the first and the last second of the 30th
without_a_date_gap : (instants_of (neg_ℤ (pos 36_000)) without_a_date (pos 15_338 *ℤ pos day_seconds) ≡ Gap)
    × (instants_of (neg_ℤ (pos 36_000)) without_a_date (pos 15_339 *ℤ pos day_seconds -ℤ pos 1) ≡ Gap)
without_a_date_gap = (refl, refl)

-- how far changes lie apart, and that they ascend
distances : (is_calm_table (pos 0) ((pos 0, pos 3_600) ∷ (pos apart_limit, pos 0) ∷ []) ≡ false)
    × (is_calm_table (pos 0) ((pos 0, pos 3_600) ∷ (pos (apart_limit + 1), pos 0) ∷ []) ≡ true)
    × (is_calm_table (pos 0) ((pos (apart_limit + 1), pos 3_600) ∷ (pos 0, pos 0) ∷ []) ≡ false)
unfolding is_calm_table
distances = (refl, refl, refl)

-- the first and the last instant of a change, and those beyond
instants : (is_calm_table (pos 0) ((neg_ℤ (pos 377_705_116_800), pos 1) ∷ []) ≡ true)
    × (is_calm_table (pos 0) ((neg_ℤ (pos 377_705_116_801), pos 1) ∷ []) ≡ false)
    × (is_calm_table (pos 0) ((pos 253_402_300_799, pos 1) ∷ []) ≡ true)
    × (is_calm_table (pos 0) ((pos 253_402_300_800, pos 1) ∷ []) ≡ false)
unfolding is_calm_table
instants = (refl, refl, refl, refl)

-- which changes count: a reading in the years 1 to 5000 at the instant or one second before it
last_met : (met_at (pos 0) (last_searched +ℤ pos 1, pos 60) ≡ 1) × (met_at (pos 0) (last_searched +ℤ pos 2, pos 60) ≡ 0)
last_met = (refl, refl)

moved_into_the_years : met_at (pos 60) (last_searched +ℤ pos 1, pos 0 -ℤ pos 1) ≡ 1
moved_into_the_years = refl

first_met : (met_at (pos 0) (first_searched, neg_ℤ (pos 60)) ≡ 0) × (met_at (neg_ℤ (pos 60)) (first_searched, pos 0) ≡ 1)
first_met = (refl, refl)

-- only clocks that are moved forward skip seconds
sums : (met_count (pos 3_600) paris ≡ 2) × (met_gaps (pos 3_600) paris ≡ 3_600)
sums = (refl, refl)
