-- The values of the three clocks at whole seconds.
use Rattle.std.proofs.Common.{◌≡◌, false, arith, ℤ, pos, ◌*ℤ◌, Some, None, unsigned_abs}
use Rattle.std.specs.Int.{int_div_euclid, int_rem_euclid}
use Rattle.jiff.specs.ZonedView.{plain_zoned}
use Rattle.jiff.specs.declared.zoned.Zoned.{Zoned}
use Rattle.jiff_core.specs.DateTime.{civil_seconds, civil_nanos, IsCivilNanos}
use Rattle.jiff_core.specs.Timestamp.{IsTimestampNanos}
use Rattle.jiff_core.specs.declared.civil.datetime.DateTime.{DateTime}
use Rattle.jiff_core.proofs.SignedLemmas.{signed_arith}
use Rattle.jiff_core.proofs.DateTimeLemmas.{civil_nanos-civil_seconds, civil_nanos_range}
use Rattle.croner_base.specs.declared.time.table.TableTime.{TableTime}
use Rattle.croner_base.specs.CivilZone.{civil_moment, civil_zone}
use Rattle.croner_base.specs.Clocked.{IsAtSecond}
use Rattle.croner_base.specs.Table.{is_table_second}
use Rattle.croner_base.specs.TableZone.{clock, table_moment}
use Rattle.croner_base.specs.ZonedValue.{value_moment}
use Rattle.croner_base.specs.ZonedZone.{zoned_zone}
use Rattle.croner_base.proofs.calendar.JiffSeconds.{is_jiff_second-true, is_jiff_second-false}
use Rattle.croner_base.proofs.clocks.ZonedMoments.{is_timestamp_second-true, is_timestamp_second-false}

-- civil time: the date-time of so many nanoseconds
pub civil_at : (s : ℤ) (dt : DateTime) → civil_nanos dt ≡ s *ℤ pos 1_000_000_000 → IsAtSecond civil_moment civil_zone s (Some dt)
civil_at s dt h =
    let second : civil_seconds dt ≡ s = omega (arith, signed_arith, civil_nanos-civil_seconds dt, dt.time.subsec_in, h) in
    let fraction : dt.time.subsec_nanosecond ≡ 0 = omega (arith, signed_arith, civil_nanos-civil_seconds dt, dt.time.subsec_in, h) in
    let range = civil_nanos_range dt in (
      rw (second, fraction),
      is_jiff_second-true s (omega (arith, signed_arith, h, range)) (omega (arith, signed_arith, h, range)),
    )

pub civil_not_at : (s : ℤ) → (IsCivilNanos (s *ℤ pos 1_000_000_000) → ⊥) → IsAtSecond civil_moment civil_zone s None
civil_not_at s h =
    is_jiff_second-false s (λ low high. h (omega (arith, signed_arith), omega (arith, signed_arith)))

-- zoned date-times of jiff: the one of so many nanoseconds in the same zone
pub zoned_at : (a b : Zoned) (s : ℤ) → (plain_zoned b).timestamp.nanosecond ≡ s *ℤ pos 1_000_000_000 → (plain_zoned b).time_zone ≡ (plain_zoned a).time_zone
    → IsAtSecond value_moment (value_moment a).zone s (Some b)
unfolding zoned_zone
zoned_at a b s h z =
    let n = (plain_zoned b).timestamp.nanosecond in
    let second : int_div_euclid (plain_zoned b).timestamp.nanosecond (pos 1_000_000_000) ≡ s = omega (arith, signed_arith, h) in
    let fraction : unsigned_abs (int_rem_euclid (plain_zoned b).timestamp.nanosecond (pos 1_000_000_000)) ≡ 0 = omega (arith, signed_arith, h) in (
      rw (second, fraction, z),
      is_timestamp_second-true s (omega (arith, signed_arith, h, (plain_zoned b).timestamp.in_range))
          (omega (arith, signed_arith, h, (plain_zoned b).timestamp.in_range)),
    )

pub zoned_not_at : (a : Zoned) (s : ℤ) → (IsTimestampNanos (s *ℤ pos 1_000_000_000) → ⊥) → IsAtSecond value_moment (value_moment a).zone s None
unfolding zoned_zone
zoned_not_at a s h =
    is_timestamp_second-false s (λ low high. h (omega (arith, signed_arith), omega (arith, signed_arith)))

-- seconds on the clock of a table: the one on the same table
pub table_at : (t x : TableTime) (s : ℤ) → x.second ≡ s → x.table.now ≡ t.table.now → IsAtSecond table_moment (table_moment t).zone s (Some x)
unfolding clock
table_at t x s e same = (rw (same, e), rw (← e) x.held)

pub table_not_at : (t : TableTime) (s : ℤ) → is_table_second s ≡ false → IsAtSecond table_moment (table_moment t).zone s None
unfolding clock
table_not_at t s h = h
