-- Making the clock of a zone, and its seconds in jiff.
use Rattle.std.proofs.Common.{◌≡◌, refl, arith, ℤ, pos, ◌*ℤ◌, ◌+ℤ◌, ◌-ℤ◌, ◌≤ℤ◌, unsigned_abs, Result, Ok, Err, IsOk, IfOk}
use Rattle.std.specs.Int.{int_div_euclid, int_rem_euclid}
use Rattle.jiff.specs.ZoneView.{plain_zone}
use Rattle.jiff.specs.ZonedView.{plain_zoned}
use Rattle.jiff.specs.declared.zoned.Zoned.{Zoned}
use Rattle.jiff_core.proofs.SignedLemmas.{signed_arith}
use Rattle.jiff_tz.specs.declared.timezone.TimeZone.{TimeZone}
use Rattle.croner_base.specs.declared.errors.CronError.{CronError}
use Rattle.croner_base.specs.declared.time.table.ClockTable.{ClockTable}
use Rattle.croner_base.specs.TableZone.{table_zone}
use Rattle.croner_base.specs.ZoneTable.{IsCalmWindow, ahead_at, nearest_in}
use Rattle.croner.specs.laws.Zones.{margin, IsClockOf}
use Rattle.croner_zoned.specs.declared.clock.ZoneClock.{ZoneClock}
use Rattle.croner_zoned.specs.Windows.{IsFollowed, IsShownAs}
use Rattle.croner_zoned.specs.Years.{first_second, last_second}

-- the table of a calm window shows what the zone shows
pub shows_zone : (tz : TimeZone) (first last : ℤ) (t : ClockTable) → IsCalmWindow tz first last → ((i : ℤ) → (table_zone t).reads i ≡ i +ℤ ahead_at tz (nearest_in first last i))
    → IsClockOf tz first last (table_zone t)
shows_zone tz first last t calm reads = record { window = calm.window; shows = reads }

-- the same of an answer
pub shows_result : (tz : TimeZone) (first last : ℤ) (r : Result ClockTable CronError) → (IsOk r → IsCalmWindow tz first last)
    → IfOk r (λ t. (i : ℤ) → (table_zone t).reads i ≡ i +ℤ ahead_at tz (nearest_in first last i)) → IfOk r (λ t. IsClockOf tz first last (table_zone t))
shows_result tz first last (Ok t) calm reads = shows_zone tz first last t (calm refl) reads
shows_result tz first last (Err e) calm reads = tt

-- a clock is followed
pub followed : (tz : TimeZone) (first last : ℤ) → first_second ≤ℤ first → first ≤ℤ last → last ≤ℤ last_second → IsCalmWindow tz (first -ℤ pos margin) last → IsFollowed tz first last
followed tz first last from order to calm = record { from = from; order = order; to = to; calm = calm }

-- the zoned date-time of a second
pub shown_as : (c : ZoneClock) (i : ℤ) (z : Zoned) → (plain_zoned z).timestamp.nanosecond ≡ i *ℤ pos 1_000_000_000 → (plain_zoned z).time_zone ≡ plain_zone c.zone → IsShownAs c i z
shown_as c i z h zone =
    let second : int_div_euclid (plain_zoned z).timestamp.nanosecond (pos 1_000_000_000) ≡ i = omega (arith, signed_arith, h) in
    let fraction : unsigned_abs (int_rem_euclid (plain_zoned z).timestamp.nanosecond (pos 1_000_000_000)) ≡ 0 = omega (arith, signed_arith, h) in
    rw (second, fraction, zone) refl
