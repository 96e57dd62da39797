-- Each time of the three clocks lies in a second that its clock holds: the proofs of the law of `Clocked`.
use Rattle.std.proofs.Common.{◌≡◌, Bool, true, refl, arith, ◌&&◌, ℤ, pos, ◌≤ℤ◌, int_le}
use Rattle.std.proofs.lemmas.Int.{ints}
use Rattle.std.specs.Int.{int_div_euclid}
use Rattle.jiff.specs.ZonedView.{plain_zoned}
use Rattle.jiff.specs.declared.zoned.Zoned.{Zoned}
use Rattle.jiff_core.specs.DateTime.{civil_seconds}
use Rattle.jiff_core.specs.declared.civil.datetime.DateTime.{DateTime}
use Rattle.jiff_core.proofs.SignedLemmas.{signed_arith}
use Rattle.jiff_core.proofs.DateTimeLemmas.{civil_nanos-civil_seconds, civil_nanos_range}
use Rattle.croner_base.specs.declared.time.table.TableTime.{TableTime}
use Rattle.croner_base.specs.CivilZone.{civil_moment, is_jiff_second}
use Rattle.croner_base.specs.Table.{first_instant, last_instant}
use Rattle.croner_base.specs.TableZone.{clock, table_moment}
use Rattle.croner_base.specs.Zone.{Moment}
use Rattle.croner_base.specs.ZonedValue.{value_moment}
use Rattle.croner_base.specs.ZonedZone.{zoned_zone, first_timestamp, last_timestamp, is_timestamp_second}

-- the second of a moment is one that its zone holds
abbrev pub IsHeld : Moment → Type 0
IsHeld m = m.zone.holds m.instant ≡ true

between : (low high i : ℤ) → low ≤ℤ i → i ≤ℤ high → (int_le low i && int_le i high) ≡ true
between low high i from to = both (int_le low i) (int_le i high) (grind (arith, ints)) (grind (arith, ints)) where
  both : (a b : Bool) → a ≡ true → b ≡ true → (a && b) ≡ true
  both a b ha hb = rw (ha, hb) refl

pub civil_held : (dt : DateTime) → IsHeld (civil_moment dt)
civil_held dt =
    let range = civil_nanos_range dt in
    between first_instant last_instant (civil_seconds dt) (omega (arith, signed_arith, civil_nanos-civil_seconds dt, dt.time.subsec_in, range))
    (omega (arith, signed_arith, civil_nanos-civil_seconds dt, dt.time.subsec_in, range))

pub zoned_held : (z : Zoned) → IsHeld (value_moment z)
unfolding zoned_zone
zoned_held z =
    let range = (plain_zoned z).timestamp.in_range in
    between first_timestamp last_timestamp (int_div_euclid (plain_zoned z).timestamp.nanosecond (pos 1_000_000_000)) (omega (arith, signed_arith, range))
    (omega (arith, signed_arith, range))

pub table_held : (t : TableTime) → IsHeld (table_moment t)
unfolding clock
table_held t = t.held
