-- The clock of a zone in a window, and the zone's own runs there. Source: this crate's documentation of `ZoneClock` and `ZoneTime`.
use Rattle.std.specs.Prelude.{◌≡◌, ◌⊎◌, Bool, ℤ, pos, ◌-ℤ◌, ◌≤ℤ◌}
use Rattle.jiff.specs.ZoneView.{plain_zone}
use Rattle.jiff.specs.declared.tz.timezone.TimeZone.{TimeZone}
use Rattle.jiff.specs.declared.zoned.Zoned.{Zoned}
use Rattle.jiff_tz.specs.declared.timezone.TimeZone.{TimeZone as PlainZone}
use Rattle.croner_base.specs.declared.errors.CronError.{CronError}
use Rattle.croner_base.specs.declared.errors.CronError.TheVariants.{InvalidTime, OutOfMemory}
use Rattle.croner_base.specs.declared.time.Direction.{Direction}
use Rattle.croner_base.specs.Zone.{Zone, at_instant}
use Rattle.croner_base.specs.ZonedValue.{value_moment}
use Rattle.croner_base.specs.ZonedZone.{zoned_zone}
use Rattle.croner_base.specs.ZoneTable.{IsWindow, IsCalmWindow}
use Rattle.croner.specs.laws.Zones.{margin}
use Rattle.croner.specs.search.Runs.{Timetable, job_in, Counts, Nearest}
use Rattle.croner_zoned.specs.declared.clock.ZoneClock.{ZoneClock}
use Rattle.croner_zoned.specs.declared.time.ZoneTime.{ZoneTime}
use Rattle.croner_zoned.specs.Years.{first_second, last_second}

-- a zone's clock is followed from a first second to a last one: they lie in the years 3 to 4998, and the clock is calm from
-- 180,000 seconds before the first one to the last one
pub record IsFollowed (tz : PlainZone) (first last : ℤ) : Type 0 where
  pub from : first_second ≤ℤ first
  pub order : first ≤ℤ last
  pub to : last ≤ℤ last_second
  pub calm : IsCalmWindow tz (first -ℤ pos margin) last

-- why there is no clock: it can't be followed, or memory is lacking
abbrev pub IsNoClock : PlainZone → ℤ → ℤ → CronError → Type 0
IsNoClock tz first last e =
    ((e ≡ InvalidTime) × ¬ (IsFollowed tz first last)) ⊎ ((e ≡ OutOfMemory) × IsWindow (first -ℤ pos margin) last)

-- the clock of a zone from a first second to a last one
pub record IsClockIn (zone : TimeZone) (first last : ℤ) (c : ZoneClock) : Type 0 where
  pub zone_is : c.zone ≡ zone
  pub first_is : c.first ≡ first
  pub last_is : c.last ≡ last

-- the zone itself
abbrev pub own_zone : ZoneClock → Zone
own_zone c = zoned_zone (plain_zone c.zone)

-- a second of the window
abbrev pub IsInWindow : ZoneClock → ℤ → Type 0
IsInWindow c i = (c.first ≤ℤ i) × (i ≤ℤ c.last)

-- the time on a clock at a second
pub record IsTimeOn (c : ZoneClock) (i : ℤ) (t : ZoneTime) : Type 0 where
  pub clock_is : t.clock.now ≡ c
  pub second_is : t.time.second ≡ i

-- the zoned date-time of jiff in the zone at a whole second
abbrev pub IsShownAs : ZoneClock → ℤ → Zoned → Type 0
IsShownAs c i z = value_moment z ≡ at_instant (own_zone c) i

-- the nearest run in the zone from a time: a time of its clock's window
pub record IsNearestInZone (direction : Direction) (inclusive : Bool) (timetable : Timetable) (start run : ZoneTime) : Type 0 where
  pub clock_is : run.clock.now ≡ start.clock.now
  pub within : IsInWindow start.clock.now run.time.second
  pub nearest : Nearest direction inclusive (job_in (own_zone start.clock.now) timetable) start.time.second run.time.second

-- no run in the zone that counts from a time lies in its clock's window
abbrev pub HasNoneInZone : Direction → Bool → Timetable → ZoneTime → Type 0
HasNoneInZone direction inclusive timetable start =
    (i : ℤ) → IsInWindow start.clock.now i
    → ¬ (Counts direction inclusive (job_in (own_zone start.clock.now) timetable) start.time.second i)
