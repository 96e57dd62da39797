-- The zone of civil date-times: a clock that never changes.
use Rattle.std.specs.Prelude.{◌≡◌, Bool, ◌&&◌, int_le, if◌then◌else◌, ℤ, Some, None}
use Rattle.jiff_core.specs.declared.civil.datetime.DateTime.{DateTime}
use Rattle.jiff_core.specs.DateTime.{civil_seconds}
use Rattle.croner_base.specs.declared.time.value.Resolution.TheVariants.{Single}
use Rattle.croner_base.specs.Civil.{wall_second}
use Rattle.croner_base.specs.Zone.{Zone, Moment}
use Rattle.croner_base.specs.Table.{first_instant, last_instant}

-- a second of the years -9999 to 9999
abbrev pub is_jiff_second : ℤ → Bool
is_jiff_second i = int_le first_instant i && int_le i last_instant

-- the zone that shows each instant as itself
abbrev pub civil_zone : Zone
civil_zone = record {
  reads = λ i. i;
  resolves = λ c. if is_jiff_second (wall_second c) then Some (Single (wall_second c)) else None;
  holds = is_jiff_second;
}

-- the instant that a civil date-time names there
abbrev pub civil_moment : DateTime → Moment
civil_moment dt = record {
  zone = civil_zone;
  instant = civil_seconds dt;
  fraction = dt.time.subsec_nanosecond;
}

-- the date-time is that second, with no fraction
pub record IsWhole (w : ℤ) (dt : DateTime) : Type 0 where
  pub second_is : civil_seconds dt ≡ w
  pub whole : dt.time.subsec_nanosecond ≡ 0
