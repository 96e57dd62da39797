use Rattle.std.proofs.Common.{◌≡◌, sym, subst, refl, arith, FitsSigned, w32, w64, rules, ℤ, pos, ◌+ℤ◌, ◌*ℤ◌}
use Rattle.std.specs.Int.{int_rem_euclid}
use Rattle.std.proofs.lemmas.Int.{ints, to_z-of_z}
use Rattle.jiff_core.specs.Date.{epoch_day}
use Rattle.croner_base.specs.Calendar.{IsRealDate}
use Rattle.croner_base.proofs.calendar.CalendarPeriods.{day_by_period, real_by_period, day_periods, no_date}
use Rattle.croner_base.proofs.calendar.CivilSeconds.{day_of_parts}
use Rattle.croner_base.proofs.time.civil.CivilDate.of_day_number.Goals as goal

pub overflow_add-years : goal.overflow_add-years
overflow_add-years c =
    let f : FitsSigned w64 c.args.day = c.ranges.day in
    let q = simp to_z-of_z at c.div_euclid.ensures in
    let b = day_periods c.args.day c.div_euclid.result f q in
    let d = c.from_days_since_min-date.result in
    omega (arith, ints, b, d.year_in)

pub from_parts_unchecked-requires : goal.from_parts_unchecked-requires
from_parts_unchecked-requires c =
    let f : FitsSigned w64 c.args.day = c.ranges.day in
    let q = simp to_z-of_z at c.div_euclid.ensures in
    let b = day_periods c.args.day c.div_euclid.result f q in
    let d = c.from_days_since_min-date.result in
    let year : c.in-Ok.year ≡ c.div_euclid.result *ℤ pos 400 +ℤ d.year = omega (arith, ints, b, d.year_in, c.in-Ok.ensures.1) in
    let fits : FitsSigned w32 c.in-Ok.year = search rules in
    let real : IsRealDate c.in-Ok.year d.month d.day = real_by_period d c.div_euclid.result c.in-Ok.year year in
    subst (λ (y : ℤ). IsRealDate y d.month d.day) (sym (to_z-of_z w32 c.in-Ok.year fits)) real

pub returns-in-Ok : goal.returns-in-Ok
returns-in-Ok c =
    let f : FitsSigned w64 c.args.day = c.ranges.day in
    let q = simp to_z-of_z at c.div_euclid.ensures in
    let r = simp to_z-of_z at c.rem_euclid-days.ensures.value in
    let b = day_periods c.args.day c.div_euclid.result f q in
    let d = c.from_days_since_min-date.result in
    let place : epoch_day d ≡ int_rem_euclid c.args.day (pos 146_097) = omega (arith, ints, c.from_days_since_min-date.ensures, r, c.rem_euclid-days.ensures) in
    let year : c.in-Ok.year ≡ c.div_euclid.result *ℤ pos 400 +ℤ d.year = omega (arith, ints, b, d.year_in, c.in-Ok.ensures.1) in
    let fits : FitsSigned w32 c.in-Ok.year = search rules in
    let parts = rw (to_z-of_z w32 c.in-Ok.year fits) at c.from_parts_unchecked.ensures in
    day_of_parts c.from_parts_unchecked.result c.in-Ok.year d.month d.day c.args.day parts (day_by_period d c.args.day c.div_euclid.result c.in-Ok.year place q year)

pub returns-in-Err : goal.returns-in-Err
returns-in-Err c =
    let f : FitsSigned w64 c.args.day = c.ranges.day in
    let q = simp to_z-of_z at c.div_euclid.ensures in
    let r = simp to_z-of_z at c.rem_euclid-days.ensures.value in
    let b = day_periods c.args.day c.div_euclid.result f q in
    let d = c.from_days_since_min-date.result in
    let place : epoch_day d ≡ int_rem_euclid c.args.day (pos 146_097) = omega (arith, ints, c.from_days_since_min-date.ensures, r, c.rem_euclid-days.ensures) in
    no_date d c.args.day c.div_euclid.result (c.div_euclid.result *ℤ pos 400 +ℤ d.year) place q refl
    (λ fits. c.in-Err.ensures (subst (λ (y : ℤ). FitsSigned w32 y) (omega (arith, ints, b, d.year_in)) fits))
