use Rattle.std.proofs.Common.{refl, arith, pos, ◌-ℤ◌, FitsSigned, w64}
use Rattle.std.proofs.lemmas.Int.{ints, to_z-of_z}
use Rattle.jiff.specs.ZoneView.{plain_zone}
use Rattle.croner_c.specs.Answers.{seen}
use Rattle.croner_c.specs.Zones.{margin}
use Rattle.croner_c.proofs.Windows.{window_bounds}
use Rattle.croner_c.proofs.Zones.{clock_in, not_calm}
use Rattle.croner_c.proofs.zone.clock_of_zone.Goals as goal

pub returns-in-Ok : goal.returns-in-Ok
returns-in-Ok c =
    let f : FitsSigned w64 c.args.first = c.ranges.first in
    let l : FitsSigned w64 c.args.last = c.ranges.last in
    let w = window_bounds c.args.first c.args.last c.requires in
    let g : FitsSigned w64 (c.args.first -ℤ pos margin) = omega (arith, ints, w, f) in
    clock_in c.args.first c.args.last (plain_zone c.args.zone.now) c.in-Ok.table (seen (λ r. (r.0, r.1.items)) c.clock_of_table.result)
    (simp to_z-of_z at (c.in-Ok.ensures.calm refl)) (simp to_z-of_z at c.in-Ok.ensures.parts) c.clock_of_table.ensures

pub returns-in-Err-InvalidTime : goal.returns-in-Err-InvalidTime
returns-in-Err-InvalidTime c =
    let f : FitsSigned w64 c.args.first = c.ranges.first in
    let l : FitsSigned w64 c.args.last = c.ranges.last in
    let w = window_bounds c.args.first c.args.last c.requires in
    let g : FitsSigned w64 (c.args.first -ℤ pos margin) = omega (arith, ints, w, f) in
    not_calm (plain_zone c.args.zone.now) (c.args.first -ℤ pos margin) c.args.last c.in-Err-InvalidTime.field-0 c.in-Err-InvalidTime.field-0-is (simp to_z-of_z at c.in-Err-InvalidTime.ensures.err)
