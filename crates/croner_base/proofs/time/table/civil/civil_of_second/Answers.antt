use Rattle.std.proofs.Common.{◌∙◌, arith, FitsSigned, w64}
use Rattle.std.proofs.lemmas.Int.{ints, to_z-of_z}
use Rattle.croner_base.proofs.calendar.CivilSeconds.{second_of_parts}
use Rattle.croner_base.proofs.time.table.civil.civil_of_second.Goals as goal

pub returns : goal.returns
returns c =
    let f : FitsSigned w64 c.args.wall = c.ranges.wall in
    let q = simp to_z-of_z at c.div_euclid.ensures in
    let r = simp to_z-of_z at c.rem_euclid.ensures.value in
    second_of_parts c.new.result c.date_of_day.result c.from_seconds_of_day-time.result c.args.wall c.div_euclid.result c.rem_euclid.result _
    c.new.ensures.date c.new.ensures.time (c.date_of_day.ensures ∙ omega (arith, ints)) c.from_seconds_of_day-time.ensures
    (omega (arith, ints, c.rem_euclid.ensures)) q r
