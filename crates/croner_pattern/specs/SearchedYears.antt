-- What matches lies in the years 1 to 5000.
use Rattle.std.specs.Prelude.{◌≡◌, true, ◌&&◌, ℤ, pos, ◌≤ℤ◌, int_le, unsigned_abs}
use Rattle.std.proofs.Common.{subst, arith}
use Rattle.std.proofs.lemmas.Bool.{and_parts}
use Rattle.jiff_core.specs.Calendar.{days_in_month}
use Rattle.jiff_core.proofs.SignedLemmas.{signed_arith}
use Rattle.croner_base.specs.declared.time.civil.CivilDateTime.{CivilDateTime}
use Rattle.croner_base.specs.Civil.{wall_second}
use Rattle.croner_base.specs.Limits.{first_year, last_year}
use Rattle.croner_base.specs.Calm.{IsSearched}
use Rattle.croner_base.proofs.calendar.Chronology.{searched_years}
use Rattle.croner_pattern.specs.Meaning.{Meaning}
use Rattle.croner_pattern.specs.Schedule.{IsScheduled, DateMatches, is_plain, is_day_matching, is_year_matching, is_date_matching, first_weekday}

date_searched : (m : Meaning) (c : CivilDateTime) → is_date_matching m c.date ≡ true → IsSearched (wall_second c)
date_searched m c h =
    let d = c.date in
    let year = and_parts (is_year_matching m d.year) (is_plain m.months d.month && is_day_matching m (days_in_month d.year d.month) (first_weekday d.year d.month) d.day) h in
    let range = and_parts (int_le (pos first_year) d.year && int_le d.year (pos last_year)) (is_plain m.years (unsigned_abs d.year)) year.0 in
    let both = and_parts (int_le (pos first_year) d.year) (int_le d.year (pos last_year)) range.0 in
    let above : int_le (pos first_year) d.year ≡ true = both.0 in
    let below : int_le d.year (pos last_year) ≡ true = both.1 in
    let low : pos first_year ≤ℤ d.year = omega (arith, signed_arith) in
    let high : d.year ≤ℤ pos last_year = omega (arith, signed_arith) in
    (searched_years c).1 (low, high)

-- a second whose date matches
pub matched_searched : (m : Meaning) (w : ℤ) → DateMatches m w → IsSearched w
matched_searched m w is = subst IsSearched is.shows (date_searched m is.shown is.matches)

-- and a scheduled one
pub scheduled_searched : (m : Meaning) (w : ℤ) → IsScheduled m w → IsSearched w
scheduled_searched m w is =
    let d = is.shown.date in
    let t = is.shown.time in
    let minutes = and_parts (is_plain m.seconds t.second) (is_plain m.minutes t.minute && (is_plain m.hours t.hour && is_date_matching m d)) is.matches in
    let hours = and_parts (is_plain m.minutes t.minute) (is_plain m.hours t.hour && is_date_matching m d) minutes.1 in
    let date = and_parts (is_plain m.hours t.hour) (is_date_matching m d) hours.1 in
    subst IsSearched is.shows (date_searched m is.shown date.1)
