use Rattle.std.proofs.Common.{◌≡◌, ◌∙◌, arith, FitsSigned, w64}
use Rattle.std.proofs.lemmas.Int.{ints, to_z-of_z}
use Rattle.croner_base.proofs.calendar.Chronology.{parts_cmp-chronological}
use Rattle.croner_base.proofs.tables.TableTests.{instant_bounds}
use Rattle.croner_backends.proofs.Bounds.{compares_beyond}
use Rattle.croner_backends.proofs.narrow.NarrowTime.cmp_shown.Goals as goal

pub returns-in-Some : goal.returns-in-Some
returns-in-Some c =
    λ near.
    let f : FitsSigned w64 c.args.second = c.ranges.second in
    let shown = simp to_z-of_z at c.in-Some.ensures.some in
    rw shown at (c.cmp.ensures ∙ parts_cmp-chronological c.in-Some.shown c.args.civil)

pub returns-in-None : goal.returns-in-None
returns-in-None c =
    λ near.
    let t = c.args.self.now.time in
    let i = instant_bounds t.second t.held in
    let f : FitsSigned w64 c.args.second = c.ranges.second in
    let v : c.second.result ≡ t.second = c.second.ensures.value in
    let g : FitsSigned w64 c.second.result = omega (arith, ints, i, v) in
    let out = simp to_z-of_z at c.in-None.ensures.none in
    let order = simp to_z-of_z at c.cmp-in-None.ensures in
    (rw v at order) ∙ compares_beyond t c.args.second c.args.civil out near
