-- The date that a clock shows, and the ends of its week and its month.
use Rattle.std.proofs.Common.{◌≡◌, ℤ, pos, ◌+ℤ◌, ◌*ℤ◌, ◌≤ℤ◌, Option, None, Some, arith, sym}
use Rattle.std.proofs.lemmas.Int.{ints}
use Rattle.jiff.proofs.Family.{civil_nanos-parts}
use Rattle.jiff_core.proofs.DateTimeLemmas.{time_nanos_bound}
use Rattle.jiff_core.specs.Date.{epoch_day}
use Rattle.jiff_core.specs.DateTime.{civil_nanos}
use Rattle.jiff_core.specs.Timestamp.{IsTimestampNanos, nanos_of_seconds}
use Rattle.jiff_core.specs.declared.civil.date.Date.{Date}
use Rattle.jiff_core.specs.declared.civil.datetime.DateTime.{DateTime}
use Rattle.jiff_tz.specs.Zone.{offset_at}
use Rattle.jiff_tz.specs.declared.timezone.TimeZone.{TimeZone}
use Rattle.croncheck_runs.specs.Clock.{IsHeldSecond}
use Rattle.croncheck_moments.specs.Moment.{IsDaysAfter, ShowsDate}

-- a second is held whose nanoseconds are those of a timestamp
held_second : (second : ℤ) → IsTimestampNanos (second *ℤ pos 1_000_000_000) → IsHeldSecond second
held_second second h = (omega (arith, ints, h.0), omega (arith, ints, h.1))

pub not_held : (second : ℤ) → (IsTimestampNanos (second *ℤ pos 1_000_000_000) → ⊥) → IsHeldSecond second → ⊥
not_held second none held = none (omega (arith, ints, held.0), omega (arith, ints, held.1))

-- the date of what the clock shows
pub date_shown : (tz : TimeZone) (dt : DateTime) (second nanos : ℤ) → nanos ≡ second *ℤ pos 1_000_000_000
    → civil_nanos dt ≡ nanos +ℤ nanos_of_seconds (offset_at tz nanos) → IsTimestampNanos (second *ℤ pos 1_000_000_000) → ShowsDate tz dt.date second
date_shown tz dt second nanos is shows held =
    let whole = civil_nanos-parts dt in
    let rest = time_nanos_bound dt.time in
    (held_second second held, (rw (sym is) (omega (arith, ints, whole, rest, shows, is)), rw (sym is) (omega (arith, ints, whole, rest, shows, is))))

-- so many dates after a date that is so many after another one
pub dates_after : (first date : Date) (far near : ℤ) (found : Option Date) → epoch_day first ≡ epoch_day date +ℤ far → IsDaysAfter first near found
    → IsDaysAfter date (far +ℤ near) found
dates_after first date far near None e h = omega (arith, ints, e, h)
dates_after first date far near (Some next) e h = omega (arith, ints, e, h)

-- where there is none so many after a date, there is none further on
pub none_after : (date : Date) (near far : ℤ) → near ≤ℤ far → IsDaysAfter date near None → IsDaysAfter date far None
none_after date near far le h = omega (arith, ints, le, h)
