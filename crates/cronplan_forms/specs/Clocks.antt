-- What a clock shows at a second, and how long something lasts. Source: this crate's documentation.
use Rattle.std.specs.Prelude.{◌≡◌, ℕ, ◌*◌, ◌/◌, ◌%◌, ◌==◌, ℤ, pos, ◌-ℤ◌, int_lt, unsigned_abs, true, false, List, [], ◌∷◌, ◌++◌, codes, if◌then◌else◌}
use Rattle.std.specs.Int.{int_rem_euclid, saturate_signed}
use mir.Syntax.{w64}
use Rattle.jiff_fmt.specs.FriendlyText.{default_printer, total_text}
use Rattle.croner_base.specs.Calendar.{day_seconds}
use Rattle.croner_base.specs.Civil.{wall_second, weekday_index, weekday_of_second}
use Rattle.croner_base.specs.CivilText.{two_places, date_text, time_text}
use Rattle.croner_base.specs.Table.{is_table_second}
use Rattle.croner_base.specs.Zone.{Zone}
use Rattle.cronplan_forms.specs.declared.clock.ClockTime.{ClockTime}

-- ---- offsets

-- seconds after hours and minutes: nothing where there are none
abbrev pub odd_seconds : ℕ → List ℕ
odd_seconds n = if n == 0 then [] else 58 ∷ two_places n

-- so many seconds as hours, minutes and, where there are some, seconds
abbrev pub clock_length : ℕ → List ℕ
clock_length n = two_places (n / 3_600) ++ (58 ∷ (two_places (n / 60 % 60) ++ odd_seconds (n % 60)))

-- the sign of a number of seconds ahead of UTC
abbrev pub sign_text : ℤ → List ℕ
sign_text ahead = if int_lt ahead (pos 0) then codes "-" else codes "+"

-- how far a clock is ahead of UTC, or behind it, as `+02:00`
abbrev pub ahead_text : ℤ → List ℕ
ahead_text ahead = sign_text ahead ++ clock_length (unsigned_abs ahead)

-- ---- the clock

-- the front of a weekday's name, by how many days it comes after Sunday
abbrev pub weekday_text : ℕ → List ℕ
weekday_text n =
    if n == 0 then codes "Sun"
    else if n == 1 then codes "Mon"
    else if n == 2 then codes "Tue"
    else if n == 3 then codes "Wed"
    else if n == 4 then codes "Thu"
    else if n == 5 then codes "Fri"
    else codes "Sat"

-- it says what the clock of a zone shows at its second, and how far that is ahead of it: a day at most, on the clock of a table
pub record IsClockTime (z : Zone) (t : ClockTime) : Type 0 where
  pub civil : wall_second t.civil ≡ z.reads t.second
  pub weekday : weekday_index t.weekday ≡ weekday_of_second (z.reads t.second)
  pub ahead : t.ahead.seconds ≡ saturate_signed w64 (z.reads t.second -ℤ t.second)

-- it says that of this second, if a table has it
pub record IsClockAt (z : Zone) (second : ℤ) (t : ClockTime) : Type 0 where
  pub second_is : t.second ≡ second
  pub shown : is_table_second second ≡ true → IsClockTime z t

-- as a text: the weekday, the date, the time and how far it is ahead of UTC
abbrev pub clock_time_text : ClockTime → List ℕ
clock_time_text t =
    weekday_text (weekday_index t.weekday) ++ (32 ∷ (date_text t.civil.date.year t.civil.date.month t.civil.date.day ++ (32
    ∷ (time_text t.civil.time.hour t.civil.time.minute t.civil.time.second ++ (32 ∷ ahead_text t.ahead.seconds)))))

-- the second of the day that a wall second is
abbrev pub second_of_day : ℤ → ℕ
second_of_day wall = unsigned_abs (int_rem_euclid wall (pos day_seconds))

-- the hour and the minute, as `02:30`
abbrev pub clock_text : ℕ → List ℕ
clock_text second = two_places (second / 3_600) ++ (codes ":" ++ two_places (second / 60 % 60))

-- ---- lengths

-- so many seconds in jiff's friendly form, as `9h 30m`
abbrev pub lasting_text : ℕ → List ℕ
lasting_text seconds = total_text default_printer (seconds * 1_000_000_000) false
