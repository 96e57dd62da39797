use Rattle.std.proofs.Common.{arith, pos, ◌-ℤ◌, FitsSigned, w64}
use Rattle.std.proofs.lemmas.Int.{ints, to_z-of_z}
use Rattle.jiff.specs.ZoneView.{plain_zone}
use Rattle.croner.specs.laws.Zones.{margin}
use Rattle.croner_zoned.proofs.Clocks.{shows_result}
use Rattle.croner_zoned.proofs.ZoneRuns.{years}
use Rattle.croner_zoned.proofs.clock.table_of.Goals as goal

pub returns-clause-calm : goal.returns-clause-calm
returns-clause-calm c =
    let f : FitsSigned w64 c.args.first = c.ranges.first in
    let l : FitsSigned w64 c.args.last = c.ranges.last in
    let g : FitsSigned w64 (c.args.first -ℤ pos margin) = omega (arith, ints, years, c.requires, f) in
    simp to_z-of_z at c.of_zone.ensures.calm

pub returns-clause-shows : goal.returns-clause-shows
returns-clause-shows c =
    let f : FitsSigned w64 c.args.first = c.ranges.first in
    let l : FitsSigned w64 c.args.last = c.ranges.last in
    let g : FitsSigned w64 (c.args.first -ℤ pos margin) = omega (arith, ints, years, c.requires, f) in
    shows_result (plain_zone c.args.zone.now) (c.args.first -ℤ pos margin) c.args.last c.of_zone.result (simp to_z-of_z at c.of_zone.ensures.calm)
    (simp to_z-of_z at c.of_zone.ensures.beyond)
