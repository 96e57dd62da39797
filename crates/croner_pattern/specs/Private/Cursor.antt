-- How a search goes over the wall clock, before any zone: what it looks for, and how far it goes. The source is this
-- crate's documentation.
-- Private contracts alone cite these definitions.
use Rattle.std.specs.Prelude.{◌≡◌, ◌↔◌, ℕ, ◌+◌, ◌-◌, ◌*◌, ◌<◌, ◌≤◌, Bool, true, false, ℤ, pos, Option, MatchOption, if◌then◌else◌}
use Rattle.std.specs.Int.{IsInRange, bit_at}
use Rattle.croner_base.specs.declared.time.Direction.{Direction}
use Rattle.croner_base.specs.declared.time.Direction.TheVariants.{Forward, Backward}
use Rattle.croner_base.specs.declared.time.civil.CivilDate.{CivilDate}
use Rattle.croner_base.specs.declared.time.civil.CivilTime.{CivilTime}
use Rattle.croner_base.specs.declared.time.civil.CivilDateTime.{CivilDateTime}
use Rattle.jiff_core.specs.Calendar.{is_leap_year, days_in_month}
use Rattle.croner_base.specs.Civil.{day_of_date, seconds_of_time}
use Rattle.croner_base.specs.Field.{Field, can_ask}
use Rattle.croner_pattern.specs.Meaning.{Meaning}
use Rattle.croner_pattern.specs.Schedule.{is_plain, is_day_matching, is_year_matching, is_date_matching, first_weekday}
use Rattle.croner_pattern.specs.Directions.{Precedes, Reaches}
pub use Rattle.croner_pattern.specs.Directions.{one_on}
pub use Rattle.croner_pattern.specs.NextSecond.{first_year, last_year, IsNearest, NoneOn, FindsNearest, has_room, edge_day, last_day, IsMove, IsOnSchedule, IsOpen}

-- x is the first in the direction of those that are meant
pub record IsForemost {X : Type 0} (place : X → ℤ) (Among : X → Type 0) (direction : Direction) (x : X) : Type 0 where
  pub is : Among x
  pub first : (y : X) → Among y → Reaches direction (place x) (place y)

-- the first of them, or None where there is none
abbrev pub FindsForemost : {X : Type 0} → (X → ℤ) → (X → Type 0) → Direction → Option X → Type 0
FindsForemost {X} place Among direction result =
    MatchOption result ((y : X) → ¬ (Among y)) (IsForemost place Among direction)

-- one of those that are meant, with this number of a unit
pub record IsAt {X : Type 0} (All : X → Type 0) (key : X → ℤ) (number : ℤ) (x : X) : Type 0 where
  pub among : All x
  pub here : key x ≡ number

-- with this number or a later one
pub record IsFrom {X : Type 0} (All : X → Type 0) (key : X → ℤ) (direction : Direction) (from : ℤ) (x : X) : Type 0 where
  pub among : All x
  pub on : Reaches direction from (key x)

-- a plain value of the field, between bounds
pub record IsPlainWithin (field : Field) (min max value : ℕ) : Type 0 where
  pub low : min ≤ value
  pub high : value ≤ max
  pub plain : is_plain field value ≡ true

-- the field holds all values between bounds
abbrev pub HoldsAll : Field → ℕ → ℕ → Type 0
HoldsAll field min max = (value : ℕ) → min ≤ value → value ≤ max → can_ask field.shape value 1 ≡ true

-- of the bits of a word those from a place on
abbrev pub AreFrom : Direction → ℕ → ℕ → ℕ → Type 0
AreFrom direction word from kept =
    (place : ℕ) → (bit_at kept place ≡ 1) ↔ ((bit_at word place ≡ 1) × Reaches direction (pos from) (pos place))

-- from the value on, the numbers of the direction go through the bounds and then leave them
abbrev pub IsOnTheWay : Direction → ℕ → ℕ → ℕ → Type 0
IsOnTheWay Forward min max value = (min ≤ value) × (value ≤ max + 1)
IsOnTheWay Backward min max value = value ≤ max

-- ---- days of a month as bits

-- the day is one of the days: the lowest bit is that of the 1st
pub record HasDay (days day : ℕ) : Type 0 where
  pub low : 1 ≤ day
  pub bit : bit_at days (day - 1) ≡ 1

-- the days are those of the month that match
pub record IsMonthDays (m : Meaning) (year : ℤ) (month days : ℕ) : Type 0 where
  pub within : (day : ℕ) → HasDay days day → day ≤ days_in_month year month
  pub dates : (d : CivilDate) → d.year ≡ year → d.month ≡ month → (is_date_matching m d ≡ true) ↔ HasDay days d.day

-- a month of this length, whose first day has this weekday, has a day that fits
pub record HasOpenDay (m : Meaning) (length first : ℕ) : Type 0 where
  pub day : ℕ
  pub low : 1 ≤ day
  pub high : day ≤ length
  pub fits : is_day_matching m length first day ≡ true

-- the year has a named month with a day that fits
pub record HasOpenMonth (m : Meaning) (year : ℤ) : Type 0 where
  pub month : ℕ
  pub low : 1 ≤ month
  pub high : month ≤ 12
  pub named : is_plain m.months month ≡ true
  pub has_open : HasOpenDay m (days_in_month year month) (first_weekday year month)

-- a length and the weekday of the first day are one of 28 kinds of month
abbrev pub month_kind : ℕ → ℕ → ℕ
month_kind length first = (length - 28) * 7 + first

-- the weekday of the first day, and whether it is a leap year, are one of 14 kinds of year
abbrev pub kind_of : Bool → ℕ → ℕ
kind_of leap first = if leap then first + 7 else first

abbrev pub year_kind : ℤ → ℕ
year_kind year = kind_of (is_leap_year year) (first_weekday year 1)

-- which kinds of month have a day that fits, one bit a kind
abbrev pub AreMonthKinds : Meaning → ℕ → Type 0
AreMonthKinds m kinds =
    (length first : ℕ) → IsInRange 28 31 length → first < 7 → (bit_at kinds (month_kind length first) ≡ 1) ↔ HasOpenDay m length first

-- which kinds of year have a named month with such a day
abbrev pub AreYearKinds : Meaning → ℕ → Type 0
AreYearKinds m kinds = (year : ℤ) → (bit_at kinds (year_kind year) ≡ 1) ↔ HasOpenMonth m year

-- ---- dates

-- a number of a year that the pattern names
pub record IsNamedYear (m : Meaning) (year : ℤ) (number : ℕ) : Type 0 where
  pub is : pos number ≡ year
  pub named : is_year_matching m year ≡ true

-- a date that matches
abbrev pub IsMatchingDate : Meaning → CivilDate → Type 0
IsMatchingDate m d = is_date_matching m d ≡ true

-- the units of a date
abbrev pub year_of : CivilDate → ℤ
year_of d = d.year

abbrev pub month_of : CivilDate → ℤ
month_of d = pos d.month

abbrev pub day_of : CivilDate → ℤ
day_of d = pos d.day

-- a date that matches, in a year, and in a month of it
abbrev pub IsInYear : Meaning → ℤ → CivilDate → Type 0
IsInYear m year = IsAt (IsMatchingDate m) year_of year

abbrev pub IsInMonth : Meaning → ℤ → ℤ → CivilDate → Type 0
IsInMonth m year month = IsAt (IsInYear m year) month_of month

-- in the years, and in the months from one on
abbrev pub IsInYears : Meaning → Direction → ℤ → CivilDate → Type 0
IsInYears m direction from = IsFrom (IsMatchingDate m) year_of direction from

abbrev pub IsInMonths : Meaning → Direction → ℤ → ℤ → CivilDate → Type 0
IsInMonths m direction year from = IsFrom (IsInYear m year) month_of direction from

-- a date that matches after a date, and that a search comes to
pub record IsAfter (m : Meaning) (direction : Direction) (date d : CivilDate) : Type 0 where
  pub ahead : Precedes direction (day_of_date date) (day_of_date d)
  pub within : Reaches direction (day_of_date d) (edge_day direction)
  pub matches : is_date_matching m d ≡ true

-- ---- times of day

-- the place of a time in its day
abbrev pub place_in_day : CivilTime → ℤ
place_in_day t = pos (seconds_of_time t)

-- the hour, the minute and the second are plain values
pub record IsMatchingTime (m : Meaning) (t : CivilTime) : Type 0 where
  pub hour : is_plain m.hours t.hour ≡ true
  pub minute : is_plain m.minutes t.minute ≡ true
  pub second : is_plain m.seconds t.second ≡ true

-- the units of a time
abbrev pub hour_of : CivilTime → ℤ
hour_of t = pos t.hour

abbrev pub minute_of : CivilTime → ℤ
minute_of t = pos t.minute

abbrev pub second_of : CivilTime → ℤ
second_of t = pos t.second

-- a time that matches, in an hour, and in a minute of it
abbrev pub IsInHour : Meaning → ℤ → CivilTime → Type 0
IsInHour m hour = IsAt (IsMatchingTime m) hour_of hour

abbrev pub IsInMinute : Meaning → ℤ → ℤ → CivilTime → Type 0
IsInMinute m hour minute = IsAt (IsInHour m hour) minute_of minute

-- in the hours, the minutes and the seconds from one on
abbrev pub IsInHours : Meaning → Direction → ℤ → CivilTime → Type 0
IsInHours m direction from = IsFrom (IsMatchingTime m) hour_of direction from

abbrev pub IsInMinutes : Meaning → Direction → ℤ → ℤ → CivilTime → Type 0
IsInMinutes m direction hour from = IsFrom (IsInHour m hour) minute_of direction from

abbrev pub IsInSeconds : Meaning → Direction → ℤ → ℤ → ℤ → CivilTime → Type 0
IsInSeconds m direction hour minute from = IsFrom (IsInMinute m hour minute) second_of direction from

-- a time that matches on a date that matches, from its time on, and that needs no step where there is no room for one
pub record IsOpenTime (m : Meaning) (direction : Direction) (from : CivilDateTime) (t : CivilTime) : Type 0 where
  pub date : is_date_matching m from.date ≡ true
  pub on : Reaches direction (place_in_day from.time) (place_in_day t)
  pub matches : IsMatchingTime m t
  pub move : has_room direction from.date.year ≡ false → IsMove m from.time t
