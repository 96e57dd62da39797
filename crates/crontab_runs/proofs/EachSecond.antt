-- Each second of the years that a pattern can name is a date and a time.
use Rattle.std.proofs.Common.{◌≡◌, ◌∙◌, refl, arith, ◌+◌, ◌/◌, ◌%◌, ◌<◌, ◌≤◌, ℕ, zero, suc, ℤ, pos, ◌+ℤ◌, ◌-ℤ◌, ◌≤ℤ◌, FitsSigned}
use Rattle.std.proofs.lemmas.Int.{ints, by_lt_z}
use Rattle.croner_pattern.specs.Gregorian.{days_in_month}
use mir.Syntax.{w32}
use borrow.Author.Differences.{up}
use Rattle.croner_base.specs.declared.time.civil.CivilDate.{CivilDate}
use Rattle.croner_base.specs.declared.time.civil.CivilTime.{CivilTime}
use Rattle.croner_base.specs.declared.time.civil.CivilDateTime.{CivilDateTime}
use Rattle.croner_base.specs.Calendar.{day_number, day_seconds}
use Rattle.croner_base.specs.Calm.{IsSearched}
use Rattle.croner_base.specs.Civil.{wall_second, day_of_date, seconds_of_time}
use Rattle.croner_base.specs.Limits.{first_year, first_searched}
use Rattle.croner.proofs.zone.ZoneOrder.{nonnegative}
use Rattle.croner_base.proofs.calendar.Chronology.{searched_years}
use Rattle.croner_base.proofs.calendar.ExamplesCalendar.{first_searched_year}
use Rattle.croner_base.proofs.calendar.JiffSeconds.{wall_second-parts}
use Rattle.croner_base.proofs.calendar.WallSteps.{after_day, after_month, after_year}

some_days : (y : ℤ) (m : ℕ) → 1 ≤ days_in_month y m
some_days y m = grind arith

-- the next date, which lies in the same year or in the next one
next_date : (d : CivilDate) → (e : CivilDate) × (day_of_date e ≡ day_of_date d +ℤ pos 1) × (e.year ≤ℤ (d.year +ℤ pos 1)) × (d.year ≤ℤ e.year)
next_date d =
    by_lt_z (pos d.day) (pos (days_in_month d.year d.month))
    (λ more.
    let e : CivilDate = record { year = d.year; month = d.month; day = d.day + 1; real = (d.real.0, (omega arith, omega (arith, ints))) } in
    (e, after_day d e refl refl refl, omega (arith, ints), omega (arith, ints)))
    (λ last. by_lt_z (pos d.month) (pos 12)
    (λ more.
    let e : CivilDate = record { year = d.year; month = d.month + 1; day = 1; real = ((omega arith, omega (arith, ints)), (omega arith, some_days d.year (d.month + 1))) } in
    (e, after_month d e refl refl refl (omega (arith, ints)), omega (arith, ints), omega (arith, ints)))
    (λ late.
    let e : CivilDate = record { year = d.year +ℤ pos 1; month = 1; day = 1; real = ((omega arith, omega arith), (omega arith, some_days (d.year +ℤ pos 1) 1)) } in
    (e, after_year d e refl refl refl (omega (arith, ints)) (omega (arith, ints)), omega (arith, ints), omega (arith, ints))))

each_date : (n : ℕ) → (d : CivilDate) × (day_of_date d ≡ day_number (pos first_year) 1 1 +ℤ pos n) × (pos 1 ≤ℤ d.year) × (d.year ≤ℤ pos (n + 1))
each_date zero =
    let d : CivilDate = record { year = pos first_year; month = 1; day = 1; real = ((omega arith, omega arith), (omega arith, some_days (pos first_year) 1)) } in
    (d, omega (arith, ints), omega (arith, ints), omega (arith, ints))
each_date (suc n) =
    let (d, at, low, high) = each_date n in
    let (e, next, above, below) = next_date d in
    (e, omega (arith, ints, at, next), omega (arith, ints, low, below), omega (arith, ints, high, above))

time_at : (s : ℕ) → s < day_seconds → (t : CivilTime) × (seconds_of_time t ≡ s)
time_at s h = (record { hour = s / 3600; minute = s / 60 % 60; second = s % 60; hour_in = omega arith; minute_in = omega arith; second_in = omega arith }, omega arith)

each_from_first : (n : ℕ) → (c : CivilDateTime) × (wall_second c ≡ first_searched +ℤ pos n)
each_from_first n =
    let (d, day, low, high) = each_date (n / day_seconds) in
    let (t, time) = time_at (n % day_seconds) (omega arith) in
    let c : CivilDateTime = record { date = d; time = t } in
    (c, wall_second-parts c ∙ omega (arith, ints, day, time, first_searched_year))

fits : (y : ℤ) → pos 1 ≤ℤ y → y ≤ℤ pos 5_000 → FitsSigned w32 y
fits y low high = omega (arith, ints)

-- each searched second is that of a date and time, whose year is one of 32 bits
pub each_second : (w : ℤ) → IsSearched w → (c : CivilDateTime) × FitsSigned w32 c.date.year × (wall_second c ≡ w)
each_second w h =
    let (c, at) = each_from_first (up (w -ℤ first_searched)) in
    let is : wall_second c ≡ w = omega (arith, ints, at, nonnegative (w -ℤ first_searched) (omega (arith, ints, h))) in
    let years = (searched_years c).0 (rw is h) in
    (c, fits c.date.year years.0 years.1, is)
