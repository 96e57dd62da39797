-- The days and the seconds next to one.
use Rattle.std.proofs.Common.{◌≡◌, ◌+◌, ◌≤◌, ◌-◌, arith, refl, sym, ◌∙◌, pos, ◌+ℤ◌, ◌-ℤ◌, ◌*ℤ◌}
use Rattle.std.proofs.lemmas.Int.{ints, to_z-of_z}
use Rattle.jiff_core.specs.Calendar.{days_in_month}
use Rattle.croner_base.specs.declared.time.civil.CivilDateTime.{CivilDateTime}
use Rattle.croner_base.specs.declared.time.civil.CivilDate.{CivilDate}
use Rattle.croner_base.specs.declared.time.civil.CivilTime.{CivilTime}
use Rattle.croner_base.specs.Calendar.{day_seconds}
use Rattle.croner_base.specs.Civil.{wall_second, day_of_date, seconds_of_time}
use Rattle.croner_base.proofs.calendar.DayNumbers.{day_number-day, day_number-next_month, day_number-next_year}
use Rattle.croner_base.proofs.calendar.JiffSeconds.{wall_second-parts}

-- a month whose last day is not before its 31st, as December's
last_of_year : (a : CivilDate) → a.month ≡ 12 → days_in_month a.year a.month ≤ a.day → a.day ≡ 31
last_of_year a month last =
    let above : 31 ≤ a.day = rw month at last in
    let below : a.day ≤ 31 = rw month at a.real.1.1 in
    omega arith

-- b is the day after a: in its month, its year, and after its year
module _ (a b : CivilDate) where
  pub after_day : b.year ≡ a.year → b.month ≡ a.month → b.day ≡ a.day + 1 → day_of_date b ≡ day_of_date a +ℤ pos 1
  after_day f g h = rw (f, g, h) (day_number-day a.year a.month a.day 1)

  pub after_month : b.year ≡ a.year → b.month ≡ a.month + 1 → b.day ≡ 1 → days_in_month a.year a.month ≤ a.day → day_of_date b ≡ day_of_date a +ℤ pos 1
  after_month f g h last =
      let day : a.day ≡ days_in_month a.year a.month = omega (arith, a.real.1.1) in
      rw (f, g, h) (day_number-next_month a.year a.month a.day a.real.0.0 day)

  pub after_year : b.year ≡ a.year +ℤ pos 1 → b.month ≡ 1 → b.day ≡ 1 → 12 ≤ a.month → days_in_month a.year a.month ≤ a.day → day_of_date b ≡ day_of_date a +ℤ pos 1
  after_year f g h late last =
      let month : a.month ≡ 12 = omega (arith, a.real.0.1) in
      rw (f, g, h, month, last_of_year a month last) (day_number-next_year a.year)

  -- and a the day before b
  pub before_day : a.year ≡ b.year → a.month ≡ b.month → a.day + 1 ≡ b.day → day_of_date a ≡ day_of_date b -ℤ pos 1
  before_day f g h = let e = after_day (sym f) (sym g) (sym h) in omega (arith, ints)

  pub before_month : a.year ≡ b.year → a.month + 1 ≡ b.month → a.day ≡ days_in_month a.year a.month → b.day ≡ 1 → day_of_date a ≡ day_of_date b -ℤ pos 1
  before_month f g last h = let e = after_month (sym f) (sym g) h (omega arith) in omega (arith, ints)

  pub before_year : a.year ≡ b.year -ℤ pos 1 → a.month ≡ 12 → a.day ≡ 31 → b.month ≡ 1 → b.day ≡ 1 → day_of_date a ≡ day_of_date b -ℤ pos 1
  before_year f g h month day =
      let year : b.year ≡ a.year +ℤ pos 1 = omega (arith, ints) in
      let last : days_in_month a.year a.month ≤ a.day = rw (g, h) (omega arith) in
      let e = after_year year month day (omega arith) last in
      omega (arith, ints)

-- the last day of the last year
pub last_date : (a : CivilDate) → 12 ≤ a.month → days_in_month a.year a.month ≤ a.day → (a.month ≡ 12) × (a.day ≡ 31)
last_date a late last = let month : a.month ≡ 12 = omega (arith, a.real.0.1) in (month, last_of_year a month last)

pub ruleset days_after = (ints, to_z-of_z, after_day, after_month, after_year, last_date)

pub ruleset days_before = (ints, to_z-of_z, before_day, before_month, before_year)

-- the second after one of the same day, and of the day before
pub second_after_day : (c n : CivilDateTime) → n.date ≡ c.date → seconds_of_time n.time ≡ seconds_of_time c.time + 1 → wall_second n ≡ wall_second c +ℤ pos 1
second_after_day c n same more = wall_second-parts n ∙ rw (same, more) (omega (arith, ints, wall_second-parts c))

pub second_after_midnight : (c n : CivilDateTime) → day_of_date n.date ≡ day_of_date c.date +ℤ pos 1 → seconds_of_time c.time ≡ day_seconds - 1 → seconds_of_time n.time ≡ 0 → wall_second n ≡ wall_second c +ℤ pos 1
second_after_midnight c n next last first = omega (arith, ints, wall_second-parts n, wall_second-parts c)

-- and the second before one
pub second_before_day : (c n : CivilDateTime) → n.date ≡ c.date → seconds_of_time n.time + 1 ≡ seconds_of_time c.time → wall_second n ≡ wall_second c -ℤ pos 1
second_before_day c n same less = let e = second_after_day n c (sym same) (sym less) in omega (arith, ints)

pub second_before_midnight : (c n : CivilDateTime) → day_of_date n.date ≡ day_of_date c.date -ℤ pos 1 → seconds_of_time c.time ≡ 0 → seconds_of_time n.time ≡ day_seconds - 1 → wall_second n ≡ wall_second c -ℤ pos 1
second_before_midnight c n before first last = omega (arith, ints, wall_second-parts n, wall_second-parts c)

pub ruleset seconds_after = (second_after_day, second_after_midnight)

pub ruleset seconds_before = (second_before_day, second_before_midnight)

pub second_of : (r : CivilDateTime) (d : CivilDate) (t : CivilTime) → r.date ≡ d → r.time ≡ t → wall_second r ≡ day_of_date d *ℤ pos day_seconds +ℤ pos (seconds_of_time t)
second_of r d t p q = wall_second-parts r ∙ rw (p, q) refl
