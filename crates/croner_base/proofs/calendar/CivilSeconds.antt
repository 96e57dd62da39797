-- Dates, times and weekdays of wall seconds.
use Rattle.std.proofs.Common.{◌≡◌, ◌∙◌, sym, arith, ℕ, ◌%◌, ℤ, pos, neg_ℤ, ◌+ℤ◌, ◌≤ℤ◌}
use Rattle.std.specs.Int.{int_div_euclid, int_rem_euclid}
use Rattle.jiff_core.proofs.SignedLemmas.{signed_arith}
use Rattle.jiff_core.specs.Date.{epoch_day}
use Rattle.jiff_core.specs.declared.civil.date.Date.{Date}
use Rattle.croner_base.specs.declared.time.civil.CivilDate.{CivilDate}
use Rattle.croner_base.specs.declared.time.civil.CivilTime.{CivilTime}
use Rattle.croner_base.specs.declared.time.civil.CivilDateTime.{CivilDateTime}
use Rattle.croner_base.specs.Calendar.{day_number, weekday_of_day, day_seconds}
use Rattle.croner_base.specs.Civil.{HasYmd, wall_second, day_of_date, seconds_of_time, weekday_of_second}
use Rattle.croner_base.specs.Private.TableSteps.{first_reading, last_reading}
use Rattle.croner_base.proofs.calendar.JiffSeconds.{epoch_day-day_number, wall_second-parts}

pub day_of_parts : (d : CivilDate) (y : ℤ) (m n : ℕ) (day : ℤ) → HasYmd y m n d → day_number y m n ≡ day → day_of_date d ≡ day
day_of_parts d y m n day h e = rw (h.year_is, h.month_is, h.day_is) e

-- the same parts make the same day
pub same_day : (d : Date) (e : CivilDate) → e.year ≡ d.year → e.month ≡ d.month → e.day ≡ d.day → day_of_date e ≡ epoch_day d
same_day d e y m n = rw (y, m, n) (sym (epoch_day-day_number d))

-- a day number and the seconds of the day make the wall second
pub second_of_parts : (c : CivilDateTime) (d : CivilDate) (t : CivilTime) (w q r : ℤ) (s : ℕ) → c.date ≡ d → c.time ≡ t → day_of_date d ≡ q → seconds_of_time t ≡ s → pos s ≡ r → q ≡ int_div_euclid w (pos day_seconds) → r ≡ int_rem_euclid w (pos day_seconds) → wall_second c ≡ w
second_of_parts c d t w q r s p o e f g h i =
    let date : day_of_date c.date ≡ q = rw p e in
    let time : seconds_of_time c.time ≡ s = rw o f in
    omega (arith, signed_arith, wall_second-parts c, date, time, g, h, i)

-- the weekday of a wall second
pub weekday_by : (w q r : ℤ) (n : ℕ) → q ≡ int_div_euclid w (pos day_seconds) → r ≡ int_rem_euclid (q +ℤ pos 4) (pos 7) → pos n ≡ r → n % 7 ≡ weekday_of_second w
unfolding weekday_of_day
weekday_by w q r n e f g =
    let h : int_rem_euclid (int_div_euclid w (pos day_seconds) +ℤ pos 4) (pos 7) ≡ pos n = rw (← e) (sym f ∙ sym g) in
    rw h (omega (arith, signed_arith, f, g))

-- the day of a second near the years -9999 to 9999
pub day_bounds : (w q : ℤ) → q ≡ int_div_euclid w (pos day_seconds) → first_reading ≤ℤ w → w ≤ℤ last_reading → (neg_ℤ (pos 5_000_000) ≤ℤ q) × (q ≤ℤ pos 5_000_000)
day_bounds w q e low high = (omega (arith, signed_arith), omega (arith, signed_arith))
