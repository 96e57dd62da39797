-- Dates as they are called. Source: this crate's documentation.
use Rattle.std.specs.Prelude.{◌≡◌, ◌==◌, ℕ, ℤ, pos, ◌*ℤ◌, MatchOption, FitsSigned, List, ◌∷◌, ◌++◌, codes, Option, Some, None, if◌then◌else◌}
use Rattle.std.specs.Fmt.{signed_decimal}
use Rattle.std.specs.Int.{int_div_euclid, saturate_signed}
use mir.Syntax.{w32, w64}
use Rattle.croner_base.specs.declared.time.civil.CivilDateTime.{CivilDateTime}
use Rattle.croner_base.specs.Calendar.{day_seconds, weekday_of_day}
use Rattle.croner_base.specs.Civil.{wall_second, weekday_index}
use Rattle.croner_base.specs.CivilText.{two_places}
use Rattle.cronplan_forms.specs.declared.date_name.DateName.{DateName}
use Rattle.cronplan_forms.specs.Clocks.{weekday_text}

-- the wall second with which a date begins
abbrev pub second_of_date : ℤ → ℤ
second_of_date date = saturate_signed w64 (date *ℤ pos day_seconds)

-- the date of a wall second
abbrev pub date_of_wall : ℤ → ℤ
date_of_wall wall = int_div_euclid wall (pos day_seconds)

-- it names this date: by its weekday, and by the date and time of its begin, which each has that a year of 32 bits has
pub record IsDateName (date : ℤ) (d : DateName) : Type 0 where
  pub date_is : d.date ≡ date
  pub weekday : weekday_index d.weekday ≡ weekday_of_day date
  pub civil : MatchOption d.civil ((c : CivilDateTime) → FitsSigned w32 c.date.year → ¬ (wall_second c ≡ second_of_date date)) (λ c. wall_second c ≡ second_of_date date)

-- the front of a month's name
abbrev pub short_month_name : ℕ → List ℕ
short_month_name n =
    if n == 1 then codes "Jan"
    else if n == 2 then codes "Feb"
    else if n == 3 then codes "Mar"
    else if n == 4 then codes "Apr"
    else if n == 5 then codes "May"
    else if n == 6 then codes "Jun"
    else if n == 7 then codes "Jul"
    else if n == 8 then codes "Aug"
    else if n == 9 then codes "Sep"
    else if n == 10 then codes "Oct"
    else if n == 11 then codes "Nov"
    else codes "Dec"

-- the day and the month; the number of a date that no year of 32 bits has
abbrev pub day_and_month : Option CivilDateTime → ℤ → List ℕ
day_and_month None date = signed_decimal date
day_and_month (Some c) date = two_places c.date.day ++ (32 ∷ short_month_name c.date.month)

-- what a date is called
abbrev pub date_name_text : DateName → List ℕ
date_name_text d = weekday_text (weekday_index d.weekday) ++ (32 ∷ day_and_month d.civil d.date)
