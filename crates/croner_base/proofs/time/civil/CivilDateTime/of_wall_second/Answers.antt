use Rattle.std.proofs.Common.{◌∙◌, sym, ap, arith, FitsSigned, w64, ℤ, pos}
use Rattle.std.specs.Int.{int_div_euclid}
use Rattle.std.proofs.lemmas.Int.{ints, to_z-of_z}
use Rattle.croner_base.specs.Calendar.{day_seconds}
use Rattle.croner_base.proofs.calendar.CivilSeconds.{second_of_parts}
use Rattle.croner_base.proofs.calendar.JiffSeconds.{wall_second-day}
use Rattle.croner_base.proofs.time.civil.CivilDateTime.of_wall_second.Goals as goal

pub returns-in-Some : goal.returns-in-Some
returns-in-Some c =
    let f : FitsSigned w64 c.args.second = c.ranges.second in
    let q = simp to_z-of_z at c.div_euclid.ensures in
    let r = simp to_z-of_z at c.rem_euclid.ensures.value in
    second_of_parts c.new.result c.in-Some.date c.from_seconds_of_day-time.result c.args.second c.div_euclid.result c.rem_euclid.result _
    c.new.ensures.date c.new.ensures.time (c.in-Some.ensures ∙ omega (arith, ints, q)) c.from_seconds_of_day-time.ensures
    (omega (arith, ints, c.rem_euclid.ensures)) q r

pub returns-in-None : goal.returns-in-None
returns-in-None c =
    let f : FitsSigned w64 c.args.second = c.ranges.second in
    let q = simp to_z-of_z at c.div_euclid.ensures in
    λ civil fits same. c.in-None.ensures civil.date fits (sym (wall_second-day civil) ∙ ap (λ (w : ℤ). int_div_euclid w (pos day_seconds)) same ∙ sym q ∙ omega (arith, ints, q))
