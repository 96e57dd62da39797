-- Each of the three clocks is never more than two days from UTC: the proofs of the law of `NearUtc`.
use Rattle.std.proofs.Common.{arith, ℤ, ◌+ℤ◌, ◌-ℤ◌, ◌≤ℤ◌}
use Rattle.std.proofs.lemmas.Int.{ints}
use Rattle.jiff.specs.ZonedView.{plain_zoned}
use Rattle.jiff.specs.declared.zoned.Zoned.{Zoned}
use Rattle.jiff_core.specs.Timestamp.{nanos_of_seconds}
use Rattle.jiff_core.specs.declared.civil.datetime.DateTime.{DateTime}
use Rattle.jiff_core.proofs.SignedLemmas.{signed_arith}
use Rattle.jiff_tz.specs.declared.timezone.TimeZone.{TimeZone}
use Rattle.croner_base.specs.declared.time.table.TableTime.{TableTime}
use Rattle.croner.specs.CivilZone.{civil_moment}
use Rattle.croner.specs.TableZone.{clock, table_moment}
use Rattle.croner.specs.ZonedValue.{value_moment}
use Rattle.croner.specs.ZonedZone.{zoned_zone, nearest_timestamp}
use Rattle.croner_base.proofs.clocks.ZonedHolds.{offset_within}
use Rattle.croner_base.proofs.tables.TableOffsets.{calm_offset}
use Rattle.croner_jobs.specs.Served.{IsNearUtc}

pub civil_near : (dt : DateTime) → IsNearUtc (civil_moment dt).zone
civil_near dt = λ i. (omega (arith, ints), omega (arith, ints))

zone_near : (tz : TimeZone) → IsNearUtc (zoned_zone tz)
unfolding zoned_zone
zone_near tz =
    λ i.
    let o = offset_within tz (nanos_of_seconds (nearest_timestamp i)) in
    (omega (arith, signed_arith, o), omega (arith, signed_arith, o))

pub zoned_near : (z : Zoned) → IsNearUtc (value_moment z).zone
zoned_near z = zone_near (plain_zoned z).time_zone

pub table_near : (t : TableTime) → IsNearUtc (table_moment t).zone
unfolding clock
table_near t =
    λ i.
    let o = calm_offset t.table.now.first_offset t.table.now.changes.items i t.table.now.calm in
    (omega (arith, ints, o), omega (arith, ints, o))
