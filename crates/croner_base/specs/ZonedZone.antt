-- A zone of jiff as a zone of this crate. What jiff answers of a zone is taken as it is; the definitions say what is made of it.
use Rattle.std.specs.Prelude.{◌≡◌, ◌<◌, Bool, true, false, ◌&&◌, int_le, int_lt, if◌then◌else◌, ℤ, pos, neg_ℤ, ◌+ℤ◌, ◌-ℤ◌, unsigned_abs, Option, Some, None, refl}
use Rattle.std.specs.Ordering.{int_eq}
use Rattle.std.specs.Int.{int_div_euclid, int_rem_euclid}
use Rattle.std.proofs.Common.{arith}
use Rattle.std.proofs.lemmas.Int.{ints}
use Rattle.jiff_core.specs.Calendar.{IsYear}
use Rattle.jiff_core.specs.Timestamp.{nanos_of_seconds}
use Rattle.jiff_core.specs.declared.civil.datetime.DateTime.{DateTime}
use Rattle.jiff_tz.specs.Ambiguous.{earlier_offset, later_offset}
use Rattle.jiff_tz.specs.Zone.{offset_at, ambiguous_at}
use Rattle.jiff_tz.specs.declared.ambiguous.AmbiguousOffset.{AmbiguousOffset}
use Rattle.jiff_tz.specs.declared.timezone.TimeZone.{TimeZone}
use Rattle.jiff_zoned.specs.declared.zoned.Zoned.{Zoned}
use Rattle.croner_base.specs.declared.time.civil.CivilDateTime.{CivilDateTime}
use Rattle.croner_base.specs.declared.time.value.Resolution.{Resolution}
use Rattle.croner_base.specs.declared.time.value.Resolution.TheVariants.{Single, Ambiguous, Gap}
use Rattle.croner_base.specs.Civil.{wall_second}
use Rattle.croner_base.specs.Zone.{Zone, Moment}
use Rattle.croner_base.specs.Limits.{year_limit}

-- the first and the last whole second of jiff's instants
abbrev pub first_timestamp : ℤ
first_timestamp = neg_ℤ (pos 377_705_023_201)

-- the last of these
abbrev pub last_timestamp : ℤ
last_timestamp = pos 253_402_207_200

-- a second whose instants jiff has
abbrev pub is_timestamp_second : ℤ → Bool
is_timestamp_second i = int_le first_timestamp i && int_le i last_timestamp

-- of these the one nearest to an instant
abbrev pub nearest_timestamp : ℤ → ℤ
nearest_timestamp i =
    if int_lt i first_timestamp then first_timestamp else (if int_lt last_timestamp i then last_timestamp else i)

-- the wall second that a zone of jiff shows at a whole-second instant; beyond jiff's instants the clock goes on
-- with the offset that it has at the nearest of them
abbrev pub zone_reads : TimeZone → ℤ → ℤ
zone_reads tz i = i +ℤ offset_at tz (nanos_of_seconds (nearest_timestamp i))

-- a year at whose seconds each offset gives an instant
abbrev pub is_near_year : ℤ → Bool
is_near_year y = int_le (neg_ℤ (pos year_limit)) y && int_le y (pos year_limit)

pub is_near_year_bounds : (y : ℤ) → is_near_year y ≡ true → IsYear y
is_near_year_bounds y h = (Prim.grind (arith, ints), Prim.grind (arith, ints))

pub no_fraction : 0 < 1_000_000_000
no_fraction = Prim.omega arith

-- jiff's date-time of a civil second, in those years
abbrev pub jiff_datetime : (c : CivilDateTime) → is_near_year c.date.year ≡ true → DateTime
jiff_datetime c h = record {
  date = record {
    year = c.date.year;
    month = c.date.month;
    day = c.date.day;
    year_in = is_near_year_bounds c.date.year h;
    month_in = c.date.real.0;
    day_in = c.date.real.1;
  };
  time = record {
    hour = c.time.hour;
    minute = c.time.minute;
    second = c.time.second;
    subsec_nanosecond = 0;
    hour_in = c.time.hour_in;
    minute_in = c.time.minute_in;
    second_in = c.time.second_in;
    subsec_in = no_fraction;
  };
}

-- those of two instants that show the second, each once, the earlier first
abbrev pub pick : Bool → Bool → ℤ → ℤ → Resolution ℤ
pick true true a b =
    if int_lt a b then Ambiguous a b else (if int_lt b a then Ambiguous b a else Single a)
pick true false a b = Single a
pick false true a b = Single b
pick false false a b = Gap

-- the instants at the two choices of offset, as far as the zone shows the second there
abbrev pub pick_offsets : TimeZone → ℤ → AmbiguousOffset → Resolution ℤ
pick_offsets tz w offsets =
    pick (int_eq (zone_reads tz (w -ℤ (earlier_offset offsets).seconds)) w)
    (int_eq (zone_reads tz (w -ℤ (later_offset offsets).seconds)) w)
    (w -ℤ (earlier_offset offsets).seconds) (w -ℤ (later_offset offsets).seconds)

-- what a zone of jiff resolves a second to
abbrev pub resolve_by : TimeZone → (c : CivilDateTime) → (b : Bool) → is_near_year c.date.year ≡ b → Option (Resolution ℤ)
resolve_by tz c true h = Some (pick_offsets tz (wall_second c) (ambiguous_at tz (jiff_datetime c h)))
resolve_by tz c false h = None

-- the zone: its clock, its resolution and the instants that jiff has
unfoldable pub zoned_zone : TimeZone → Zone
zoned_zone tz = record {
  reads = zone_reads tz;
  resolves = λ c. resolve_by tz c (is_near_year c.date.year) refl;
  holds = is_timestamp_second;
}

-- the instant that a zoned date-time names
abbrev pub zoned_moment : Zoned → Moment
zoned_moment z = record {
  zone = zoned_zone z.time_zone;
  instant = int_div_euclid z.timestamp.nanosecond (pos 1_000_000_000);
  fraction = unsigned_abs (int_rem_euclid z.timestamp.nanosecond (pos 1_000_000_000));
}
