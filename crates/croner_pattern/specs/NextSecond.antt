-- The nearest scheduled second on the wall clock, before any zone: what a search for it comes to, and how far it goes. The source is
-- this crate's documentation.
use Rattle.std.specs.Prelude.{◌≡◌, Bool, true, false, ℤ, pos, int_lt, Option, MatchOption, if◌then◌else◌}
use Rattle.croner_base.specs.declared.time.Direction.{Direction}
use Rattle.croner_base.specs.declared.time.Direction.TheVariants.{Forward, Backward}
use Rattle.croner_base.specs.declared.time.civil.CivilDate.{CivilDate}
use Rattle.croner_base.specs.declared.time.civil.CivilTime.{CivilTime}
use Rattle.croner_base.specs.declared.time.civil.CivilDateTime.{CivilDateTime}
use Rattle.croner_base.specs.Calendar.{day_number}
use Rattle.croner_base.specs.Civil.{day_of_date}
use Rattle.croner_pattern.specs.Meaning.{Meaning}
use Rattle.croner_pattern.specs.Schedule.{is_plain, is_scheduled}
use Rattle.croner_pattern.specs.Directions.{Reaches}
pub use Rattle.croner_base.specs.Limits.{first_year, last_year}

-- x is the nearest of those that match, from a place on, the place itself included
pub record IsNearest {X : Type 0} (place : X → ℤ) (matches : X → Type 0) (direction : Direction) (from : ℤ) (x : X) : Type 0 where
  pub on : Reaches direction from (place x)
  pub is : matches x
  pub first : (y : X) → Reaches direction from (place y) → matches y → Reaches direction (place x) (place y)

-- from the place on none matches
abbrev pub NoneOn : {X : Type 0} → (X → ℤ) → (X → Type 0) → Direction → ℤ → Type 0
NoneOn {X} place matches direction from = (y : X) → Reaches direction from (place y) → ¬ (matches y)

-- the nearest one that matches, or None where none does
abbrev pub FindsNearest : {X : Type 0} → (X → ℤ) → (X → Type 0) → Direction → ℤ → Option X → Type 0
FindsNearest place matches direction from result =
    MatchOption result (NoneOn place matches direction from) (IsNearest place matches direction from)

-- a search steps on from a year: forward before 5000, backward after 1
abbrev pub has_room : Direction → ℤ → Bool
has_room Forward year = int_lt year (pos last_year)
has_room Backward year = int_lt (pos first_year) year

-- the first day of the year from which no step leads on
abbrev pub edge_day : Direction → ℤ
edge_day Forward = day_number (pos last_year) 1 1
edge_day Backward = day_number (pos first_year) 12 31

-- the last day that a search from a date on comes to. From a year that it does not step on from it stays on its day.
abbrev pub last_day : Direction → CivilDate → ℤ
last_day direction from = if has_room direction from.year then edge_day direction else day_of_date from

-- the way from one time to another of the same day steps over no hour and no minute: a plain hour stays, and in it a
-- plain minute
pub record IsMove (m : Meaning) (from t : CivilTime) : Type 0 where
  pub hour : is_plain m.hours from.hour ≡ true → t.hour ≡ from.hour
  pub minute : t.hour ≡ from.hour → is_plain m.minutes from.minute ≡ true → t.minute ≡ from.minute

-- the date and time is scheduled
abbrev pub IsOnSchedule : Meaning → CivilDateTime → Type 0
IsOnSchedule m c = is_scheduled m c ≡ true

-- a scheduled date and time that a search from `from` on comes to: no later than the last day, and from a year that it
-- does not step on from without a step
pub record IsOpen (m : Meaning) (direction : Direction) (from c : CivilDateTime) : Type 0 where
  pub scheduled : is_scheduled m c ≡ true
  pub within : Reaches direction (day_of_date c.date) (last_day direction from.date)
  pub move : has_room direction from.date.year ≡ false → IsMove m from.time c.time
