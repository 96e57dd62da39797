-- Worked rows of dates and hours, computed from the definitions: Paris in 2027, where the clock skips 02:00 to 03:00 on March 28, a Sunday, and
-- shows 02:00 to 03:00 twice on October 31.
use Rattle.std.proofs.Common.{◌≡◌, ℕ, ℤ, pos, true, false, Some, None, List, [], ◌∷◌, refl}
use Rattle.croner_base.specs.TableZone.{clock}
use Rattle.cronplan.specs.declared.changes.ClockChange.{ClockChange}
use Rattle.cronplan.specs.declared.days.ShownHours.{ShownHours}
use Rattle.cronplan.specs.declared.moments.Moment.{Moment}
use Rattle.cronplan.specs.declared.span.Span.{Span}
use Rattle.cronplan.specs.declared.start.JobStart.{JobStart}
use Rattle.cronplan.specs.Changes.{change_at, skips, repeats, skips_hour, repeats_hour}
use Rattle.cronplan.specs.Counts.{date_of}
use Rattle.cronplan.specs.Days.{cell_of, fullest_on, dates_between, shown_hours}

abbrev changes : List (ℤ × ℤ)
changes = (pos 1_806_195_600, pos 7_200) ∷ (pos 1_824_944_400, pos 3_600) ∷ []

-- the two changes
abbrev spring : ClockChange
spring = record { second = pos 1_806_195_600; before = pos 1_806_199_199; shown = pos 1_806_202_800 }

abbrev autumn : ClockChange
autumn = record { second = pos 1_824_944_400; before = pos 1_824_951_599; shown = pos 1_824_948_000 }

on_the_clock : (change_at (clock (pos 3_600) changes) (pos 1_806_195_600) ≡ spring) × (change_at (clock (pos 3_600) changes) (pos 1_824_944_400) ≡ autumn)
unfolding clock
on_the_clock = (refl, refl)

-- of the hours of March 28 it skips the one from 02:00 alone, and repeats none
skipped : (skips (pos 501_721) spring ≡ false) × (skips (pos 501_722) spring ≡ true) × (skips (pos 501_723) spring ≡ false) × (repeats_hour (pos 501_722) (spring ∷ autumn ∷ []) ≡ false)
skipped = (refl, refl, refl, refl)

-- of the hours of October 31 it repeats the one from 02:00 alone, and skips none
repeated : (repeats (pos 506_929) autumn ≡ false) × (repeats (pos 506_930) autumn ≡ true) × (repeats (pos 506_931) autumn ≡ false) × (skips_hour (pos 506_930) (spring ∷ autumn ∷ []) ≡ false)
repeated = (refl, refl, refl, refl)

-- a start at 03:00 of March 28, when the clock was put forward, and two at 01:30
abbrev starts : List JobStart
starts = record { second = pos 1_806_193_800; job = 0; count = 2; wall = pos 1_806_197_400 } ∷ record { second = pos 1_806_195_600; job = 1; count = 1; wall = pos 1_806_202_800 } ∷ []

-- a span from 01:30:00 of March 28 to 03:00:01, and its hours: the one from 01:00 to the one from 03:00
abbrev night : Span
night = record { first = pos 1_806_193_800; end = pos 1_806_195_601; held = refl }

abbrev night_hours : ShownHours
night_hours = record { first = pos 501_721; last = pos 501_723 }

shown : shown_hours (clock (pos 3_600) changes) night (spring ∷ []) ≡ night_hours
unfolding clock
shown = refl

-- a span from 03:00:00 of that day for a second: what the clock showed before isn't in it
abbrev put_forward : Span
put_forward = record { first = pos 1_806_195_600; end = pos 1_806_195_601; held = refl }

shown_then : shown_hours (clock (pos 3_600) changes) put_forward (spring ∷ []) ≡ record { first = pos 501_723; last = pos 501_723 }
unfolding clock
shown_then = refl

-- a span that begins where the clock is put back to 02:00 of October 31, for a second
abbrev put_back : Span
put_back = record { first = pos 1_824_944_400; end = pos 1_824_944_401; held = refl }

-- and one of two hours from 02:30:00 of that day on, which ends as the clock shows 03:30:00
abbrev across : Span
across = record { first = pos 1_824_942_600; end = pos 1_824_949_800; held = refl }

shown_back : (shown_hours (clock (pos 3_600) changes) put_back (autumn ∷ []) ≡ record { first = pos 506_930; last = pos 506_930 })
    × (shown_hours (clock (pos 3_600) changes) across (autumn ∷ []) ≡ record { first = pos 506_930; last = pos 506_931 })
unfolding clock
shown_back = (refl, refl)

cells : (cell_of starts (spring ∷ []) night_hours (pos 501_720) ≡ record { starts = 0; skipped = false; repeated = false; outside = true })
    × (cell_of starts (spring ∷ []) night_hours (pos 501_721) ≡ record { starts = 2; skipped = false; repeated = false; outside = false })
    × (cell_of starts (spring ∷ []) night_hours (pos 501_722) ≡ record { starts = 0; skipped = true; repeated = false; outside = false })
    × (cell_of starts (spring ∷ []) night_hours (pos 501_723) ≡ record { starts = 1; skipped = false; repeated = false; outside = false })
    × (cell_of starts (spring ∷ []) night_hours (pos 501_724) ≡ record { starts = 0; skipped = false; repeated = false; outside = true })
cells = (refl, refl, refl, refl, refl)

-- 20,899 is the date of March 22, and 20,905 that of March 28: seven dates; the hour 501,722 is its third one
dates : (date_of (pos 1_805_673_600) ≡ pos 20_899) × (date_of (pos 1_806_202_800) ≡ pos 20_905) × (dates_between (pos 20_899) (pos 20_905) ≡ 7) × (dates_between (pos 1) (pos 0) ≡ 0)
dates = (refl, refl, refl, refl)

abbrev moment : ℕ → ℕ → Moment
moment second starts = record { second = pos second; wall = pos second; starts = starts }

-- of two equal moments of a date the first, and none of another date
fullest : (fullest_on (pos 0) (moment 60 1 ∷ moment 7_200 3 ∷ moment 16_200 3 ∷ moment 90_000 9 ∷ []) ≡ Some (moment 7_200 3)) × (fullest_on (pos 2) (moment 60 1 ∷ []) ≡ None)
fullest = (refl, refl)
