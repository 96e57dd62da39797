-- What jiff's civil date-times do as moments.
use Rattle.std.proofs.Common.{◌≡◌, inl, inr, false, refl, arith, ℤ, pos, ◌+ℤ◌, ◌*ℤ◌, Some}
use Rattle.jiff_core.specs.Calendar.{IsYear}
use Rattle.jiff_core.specs.DateTime.{civil_seconds, civil_nanos, IsCivilNanos}
use Rattle.jiff_core.specs.declared.civil.datetime.DateTime.{DateTime}
use Rattle.jiff_core.proofs.SignedLemmas.{signed_arith}
use Rattle.jiff_core.proofs.DateTimeLemmas.{civil_nanos-civil_seconds, civil_nanos_range}
use Rattle.croner_base.specs.declared.errors.CronError.{CronError}
use Rattle.croner_base.specs.declared.errors.CronError.TheVariants.{InvalidDate}
use Rattle.croner_base.specs.declared.time.civil.CivilDateTime.{CivilDateTime}
use Rattle.croner_base.specs.declared.time.value.Resolution.TheVariants.{Single}
use Rattle.croner_base.specs.Civil.{wall_second}
use Rattle.croner_base.specs.Zone.{IsUnheld, IsResolved, IsMoved}
use Rattle.croner_base.specs.CivilZone.{civil_moment, civil_zone, is_jiff_second, IsWhole}
use Rattle.croner_base.proofs.calendar.JiffSeconds.{is_jiff_second-true, is_jiff_second-false, held_year, unheld_year}

-- so many nanoseconds later is so many seconds later, with the same fraction
pub civil_moment_later : (a b : DateTime) (s n : ℤ) → n ≡ s *ℤ pos 1_000_000_000 → civil_nanos b ≡ civil_nanos a +ℤ n → IsMoved civil_moment (civil_moment a) s (Some b)
civil_moment_later a b s n m h =
    let second : civil_seconds b ≡ civil_seconds a +ℤ s = omega (arith, signed_arith, civil_nanos-civil_seconds a, civil_nanos-civil_seconds b, a.time.subsec_in, b.time.subsec_in) in
    let fraction : b.time.subsec_nanosecond ≡ a.time.subsec_nanosecond = omega (arith, signed_arith, civil_nanos-civil_seconds a, civil_nanos-civil_seconds b, a.time.subsec_in, b.time.subsec_in) in
    let range = civil_nanos_range b in (
      rw (second, fraction),
      is_jiff_second-true (civil_seconds a +ℤ s)
          (omega (arith, signed_arith, second, civil_nanos-civil_seconds b, b.time.subsec_in, range))
          (omega (arith, signed_arith, second, civil_nanos-civil_seconds b, b.time.subsec_in, range)),
    )

pub civil_moment_past : (a : DateTime) (s n : ℤ) → n ≡ s *ℤ pos 1_000_000_000 → (IsCivilNanos (civil_nanos a +ℤ n) → ⊥) → is_jiff_second (civil_seconds a +ℤ s) ≡ false
civil_moment_past a s n m h =
    is_jiff_second-false (civil_seconds a +ℤ s) (λ low high. h (
      omega (arith, signed_arith, civil_nanos-civil_seconds a, a.time.subsec_in, m),
      omega (arith, signed_arith, civil_nanos-civil_seconds a, a.time.subsec_in, m),
    ))

-- a civil second resolves to itself
pub civil_resolved : (c : CivilDateTime) (dt : DateTime) → IsYear c.date.year → IsWhole (wall_second c) dt → IsResolved civil_moment civil_zone c (Single dt)
civil_resolved c dt h w = (
  record { zone_is = refl; whole = w.whole; reads_it = w.second_is },
  rw (held_year c h, w.second_is),
)

pub civil_unresolved : (c : CivilDateTime) (e : CronError) → (IsYear c.date.year → ⊥) → e ≡ InvalidDate → IsUnheld false civil_zone c e
civil_unresolved c e h is = inr (inl is, rw (unheld_year c h))
