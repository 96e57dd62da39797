-- What contracts see of civil dates and times.
use Rattle.std.specs.Prelude.{◌≡◌, ℕ, ◌+◌, ◌*◌, ◌<◌, ℤ, pos, ◌+ℤ◌, ◌*ℤ◌}
use Rattle.std.specs.Int.{int_div_euclid}
use Rattle.croner_base.specs.declared.time.civil.Weekday.{Weekday}
use Rattle.croner_base.specs.declared.time.civil.Weekday.TheVariants.{Sunday, Monday, Tuesday, Wednesday, Thursday, Friday, Saturday}
use Rattle.croner_base.specs.declared.time.civil.CivilDate.{CivilDate}
use Rattle.croner_base.specs.declared.time.civil.CivilTime.{CivilTime}
use Rattle.croner_base.specs.declared.time.civil.CivilDateTime.{CivilDateTime}
use Rattle.croner_base.specs.Calendar.{day_number, weekday_of_day, day_seconds}

-- how many days after Sunday
abbrev pub weekday_index : Weekday → ℕ
weekday_index Sunday = 0
weekday_index Monday = 1
weekday_index Tuesday = 2
weekday_index Wednesday = 3
weekday_index Thursday = 4
weekday_index Friday = 5
weekday_index Saturday = 6

-- the date has this year, month and day
pub record HasYmd (year : ℤ) (month day : ℕ) (d : CivilDate) : Type 0 where
  pub year_is : d.year ≡ year
  pub month_is : d.month ≡ month
  pub day_is : d.day ≡ day

-- the day has this hour, minute and second
abbrev pub IsTimeOfDay : ℕ → ℕ → ℕ → Type 0
IsTimeOfDay h m s = (h < 24) × (m < 60) × (s < 60)

-- the time has this hour, minute and second
pub record HasHms (hour minute second : ℕ) (t : CivilTime) : Type 0 where
  pub hour_is : t.hour ≡ hour
  pub minute_is : t.minute ≡ minute
  pub second_is : t.second ≡ second

-- the day number of a date
abbrev pub day_of_date : CivilDate → ℤ
day_of_date d = day_number d.year d.month d.day

-- seconds since midnight
abbrev pub seconds_of_time : CivilTime → ℕ
seconds_of_time t = t.hour * 3600 + t.minute * 60 + t.second

-- the wall second: seconds since 1970-01-01T00:00:00 on a clock whose days have 24 hours
unfoldable pub wall_second : CivilDateTime → ℤ
wall_second c = day_of_date c.date *ℤ pos day_seconds +ℤ pos (seconds_of_time c.time)

-- the weekday of a wall second's date, from 0 for Sunday
abbrev pub weekday_of_date : CivilDate → ℕ
weekday_of_date d = weekday_of_day (day_of_date d)

-- the weekday of the date of a wall second, from 0 for Sunday
abbrev pub weekday_of_second : ℤ → ℕ
weekday_of_second w = weekday_of_day (int_div_euclid w (pos day_seconds))
