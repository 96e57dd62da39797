-- What is held around a start, where its clock is never far from UTC: so what jiff holds around a zoned date-time, in every zone.
use Rattle.std.proofs.Common.{◌≡◌, Bool, true, false, refl, arith, ℕ, ℤ, pos, ◌+ℤ◌, ◌-ℤ◌, ◌≤ℤ◌, IsSome}
use Rattle.jiff_core.specs.Timestamp.{IsOffsetSeconds, nanos_of_seconds}
use Rattle.jiff_core.proofs.SignedLemmas.{signed_arith}
use Rattle.jiff_tz.specs.Zone.{offset_at}
use Rattle.jiff_tz.specs.PosixRule as PosixRule
use Rattle.jiff_tz.specs.Tzif as Table
use Rattle.jiff_tz.specs.declared.timezone.TimeZone.{TimeZone}
use Rattle.jiff_tz.specs.declared.timezone.TimeZone.TheVariants.{UTC, Unknown, Fixed, Posix, Tzif}
use Rattle.jiff_zoned.specs.declared.zoned.Zoned.{Zoned}
use Rattle.croner_base.specs.declared.time.civil.CivilDateTime.{CivilDateTime}
use Rattle.croner_base.specs.Civil.{wall_second}
use Rattle.croner_base.specs.Zone.{Zone, Moment, reading}
use Rattle.croner_base.specs.Limits.{first_start, last_start}
use Rattle.croner_base.specs.Calm.{HoldsAround}
use Rattle.croner_base.specs.ZonedZone.{zoned_moment, zoned_zone, is_near_year, resolve_by, nearest_timestamp, first_timestamp, last_timestamp}
use Rattle.croner_base.proofs.calendar.JiffSeconds.{first_near, last_near, wall_second-parts, year_of_near}
use Rattle.croner_base.proofs.clocks.ZonedResolved.{is_near_year-true}
use Rattle.croner_base.proofs.clocks.ZonedMoments.{is_timestamp_second-true}

-- the most seconds that a clock is ahead of UTC or behind it, jiff's and a table's
abbrev pub farthest_offset : ℕ
farthest_offset = 93_599

abbrev pub IsNearUtc : Zone → Type 0
IsNearUtc z = (i : ℤ) → ((i -ℤ pos farthest_offset) ≤ℤ z.reads i) × (z.reads i ≤ℤ (i +ℤ pos farthest_offset))

-- where the start reads a year from -9997 to 9997
pub holds_around : (m : Moment) → ((c : CivilDateTime) → is_near_year c.date.year ≡ true → IsSome (m.zone.resolves c)) → ((i : ℤ) → first_timestamp ≤ℤ i → i ≤ℤ last_timestamp → m.zone.holds i ≡ true) → IsNearUtc m.zone → first_start ≤ℤ reading m → reading m ≤ℤ last_start → HoldsAround m
holds_around m named held within low high =
    let near : (c : CivilDateTime) → first_near ≤ℤ wall_second c → wall_second c ≤ℤ last_near → IsSome (m.zone.resolves c) =
    λ c from to.
    let y = year_of_near c.date (omega (arith, signed_arith, wall_second-parts c, c.time.hour_in, c.time.minute_in, c.time.second_in)) (omega (arith, signed_arith, wall_second-parts c, c.time.hour_in, c.time.minute_in, c.time.second_in)) in
    named c (is_near_year-true c.date.year y.0 y.1) in
    let r = within m.instant in
    record {
      years = λ c h. near c (omega (arith, signed_arith, h)) (omega (arith, signed_arith, h));
      year_instants = λ i h. held i (omega (arith, signed_arith, h, within i)) (omega (arith, signed_arith, h, within i));
      near = λ c h. near c (omega (arith, signed_arith, h, low)) (omega (arith, signed_arith, h, high));
      near_instants = λ i h. held i (omega (arith, signed_arith, h, r, low)) (omega (arith, signed_arith, h, r, high));
    }

-- each offset of a zone is one of jiff's
pub offset_within : (tz : TimeZone) (n : ℤ) → IsOffsetSeconds (offset_at tz n)
unfolding offset_at
offset_within UTC n = (omega (arith, signed_arith), omega (arith, signed_arith))
offset_within Unknown n = (omega (arith, signed_arith), omega (arith, signed_arith))
offset_within (Fixed offset) n = offset.in_range
offset_within (Posix tz) n = (PosixRule.offset_at tz n).in_range
offset_within (Tzif z) n = (Table.offset_at z.now n).in_range

resolved_by : (tz : TimeZone) (c : CivilDateTime) (b : Bool) (e : is_near_year c.date.year ≡ b) → b ≡ true → IsSome (resolve_by tz c b e)
resolved_by tz c true e h = refl
resolved_by tz c false e h = absurd (cc)

named : (tz : TimeZone) (c : CivilDateTime) → is_near_year c.date.year ≡ true → IsSome ((zoned_zone tz).resolves c)
unfolding zoned_zone
named tz c near = resolved_by tz c _ refl near

held : (tz : TimeZone) (i : ℤ) → first_timestamp ≤ℤ i → i ≤ℤ last_timestamp → (zoned_zone tz).holds i ≡ true
unfolding zoned_zone
held tz i low high = is_timestamp_second-true i low high

near_utc : (tz : TimeZone) → IsNearUtc (zoned_zone tz)
unfolding zoned_zone
near_utc tz =
    λ i.
    let o = offset_within tz (nanos_of_seconds (nearest_timestamp i)) in
    (omega (arith, signed_arith, o), omega (arith, signed_arith, o))

pub zoned_holds : (z : Zoned) → first_start ≤ℤ reading (zoned_moment z) → reading (zoned_moment z) ≤ℤ last_start → HoldsAround (zoned_moment z)
zoned_holds z low high = holds_around (zoned_moment z) (named z.time_zone) (held z.time_zone) (near_utc z.time_zone) low high
