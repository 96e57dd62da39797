-- The weekday of a date, and the date of a first day.
use Rattle.std.proofs.Common.{◌≡◌, ◌∙◌, ◌<◌, ◌%◌, ◌+ℤ◌, ℕ, ℤ, pos, arith, ap, sym, unsigned_abs}
use Rattle.std.specs.Int.{int_div_euclid, int_rem_euclid}
use Rattle.croner_base.specs.declared.time.civil.CivilDate.{CivilDate}
use Rattle.croner_base.specs.declared.time.civil.CivilDateTime.{CivilDateTime}
use Rattle.croner_base.specs.Calendar.{day_number, weekday_of_day}
use Rattle.croner_base.specs.Civil.{HasYmd, day_of_date, wall_second}
use Rattle.croner_base.proofs.calendar.JiffSeconds.{wall_second-day}

-- what is left of the fourth day after a date when weeks are taken off
pub weekday_is : (date r : ℤ) (days : ℕ) → r ≡ int_rem_euclid (date +ℤ pos 4) (pos 7) → r ≡ pos days → days < 7 → days % 7 ≡ weekday_of_day date
unfolding weekday_of_day
weekday_is date r days is at few =
    let small : days % 7 ≡ days = omega (arith, few) in
    small ∙ ap unsigned_abs (sym at ∙ is)

-- the date of the begin of a month's first day
pub first_day_is : (c : CivilDateTime) (d : CivilDate) (y : ℤ) (m : ℕ) (r : ℤ) → c.date ≡ d → HasYmd y m 1 d → r ≡ int_div_euclid (wall_second c) (pos 86_400) → r ≡ day_number y m 1
first_day_is c d y m r date ymd is =
    is ∙ wall_second-day c ∙ ap day_of_date date
    ∙ ap (λ (i : ℤ). day_number i d.month d.day) ymd.year_is ∙ ap (λ (i : ℕ). day_number y i d.day) ymd.month_is ∙ ap (day_number y m) ymd.day_is
