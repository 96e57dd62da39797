use Rattle.std.proofs.Common.{◌≡◌, ◌∙◌, arith, pos, ◌+ℤ◌, ◌*ℤ◌, ℕ, FitsSigned, refl, to_z, of_z, to_z-of_z, w16, w32, w64}
use Rattle.std.proofs.lemmas.Int.{ints, to_z_pos}
use Rattle.jiff_core.specs.Calendar.{days_from_civil}
use Rattle.jiff_core.specs.Date.{epoch_day}
use Rattle.jiff_core.proofs.SignedLemmas.{signed_arith}
use Rattle.jiff_core.proofs.CalendarLemmas.{days_in_year_bounds}
use Rattle.jiff_tz.proofs.YearLemmas.{back_year}
use Rattle.croner_base.proofs.zones.ZoneYears.{year_ends}
use Rattle.croner_base.proofs.time.table.of_zone.year_end.Goals as goal

pub returns : goal.returns
returns c =
    let dt = c.to_datetime-year.result in
    let d = c.constrain.result in
    let back : to_z w16 (of_z w16 dt.date.year) ≡ dt.date.year = back_year dt.date.year dt.date.year_in in
    let year : d.year ≡ dt.date.year = c.constrain.ensures.year ∙ back in
    let same : epoch_day d ≡ days_from_civil dt.date.year 1 1 = rw (year, c.constrain.ensures.month, c.constrain.ensures.day) refl in
    let days = rw back at c.days_in_year-days.ensures in
    let u = c.to_unix_epoch_day.result in
    let n : ℕ = c.days_in_year-days.result in
    let few = days_in_year_bounds dt.date.year in
    let within = c.to_unix_epoch_day.ensures.bound in
    let fu : FitsSigned w32 u = omega (arith, ints, within) in
    let fw : FitsSigned w64 u = omega (arith, ints, within) in
    let fd : FitsSigned w64 (pos n) = omega (arith, ints, days, few) in
    let fs : FitsSigned w64 (u +ℤ pos n) = omega (arith, ints, within, days, few) in
    let ft : FitsSigned w64 ((u +ℤ pos n) *ℤ pos 86_400) = omega (arith, ints, within, days, few) in
    let end = year_ends dt c.args.instant.nanosecond ((u +ℤ pos n) *ℤ pos 86_400) (omega (arith, signed_arith, c.to_datetime-year.ensures)) (omega (arith, signed_arith, c.to_unix_epoch_day.ensures.value, same, days)) in
    let same_days : to_z w64 n ≡ pos n = to_z_pos w64 n (omega (arith, days, few)) in
    simp (to_z-of_z, same_days) end
