use Rattle.std.proofs.Common.{◌∙◌, ap, arith, pos, ◌+ℤ◌, FitsSigned, w64}
use Rattle.std.proofs.lemmas.Int.{ints, to_z-of_z}
use Rattle.croner_base.specs.Civil.{weekday_of_second}
use Rattle.croner_base.proofs.calendar.CivilSeconds.{weekday_by, day_bounds}
use Rattle.croner_base.proofs.time.table.TableTimeCronDateTime.civil_weekday.Goals as goal

pub returns : goal.returns
returns c =
    let f : FitsSigned w64 c.wall.result = omega (arith, ints, c.wall.ensures.low, c.wall.ensures.high) in
    let q = simp to_z-of_z at c.div_euclid-day.ensures in
    let b = day_bounds c.wall.result c.div_euclid-day.result q c.wall.ensures.low c.wall.ensures.high in
    let g : FitsSigned w64 c.div_euclid-day.result = omega (arith, ints, b) in
    let h : FitsSigned w64 (c.div_euclid-day.result +ℤ pos 4) = omega (arith, ints, b) in
    let r = simp to_z-of_z at c.rem_euclid.ensures.value in
    c.from_days_from_sunday.ensures
    ∙ weekday_by c.wall.result c.div_euclid-day.result c.rem_euclid.result _ q r (omega (arith, ints, c.rem_euclid.ensures))
    ∙ ap weekday_of_second c.wall.ensures.value
