use Rattle.std.proofs.Common.{◌≡◌, arith, ◌+ℤ◌, FitsSigned, w64}
use Rattle.std.proofs.lemmas.Int.{ints, to_z-of_z}
use Rattle.croner_base.specs.TableZone.{clock}
use Rattle.croner_base.proofs.tables.TableTests.{instant_bounds}
use Rattle.croner_backends.proofs.narrow.NarrowTime.shown_at.Goals as goal

pub returns-in-Ok-None-clause-none : goal.returns-in-Ok-None-clause-none
unfolding clock
returns-in-Ok-None-clause-none c =
    let t = c.args.self.now.time in
    let i = instant_bounds t.second t.held in
    let f : FitsSigned w64 c.args.second = c.ranges.second in
    let v : c.second.result ≡ t.second = c.second.ensures.value in
    let g : FitsSigned w64 c.second.result = omega (arith, ints, i, v) in
    let sum = simp to_z-of_z at c.in_ok-elapsed.ensures in
    let k : FitsSigned w64 c.in_ok-elapsed.elapsed = rw sum.1 sum.0 in
    let m = simp to_z-of_z at (rw c.in-Ok-None.field-0-is at c.in-Ok-None.ensures.value) in
    let there : t.second +ℤ c.in_ok-elapsed.elapsed ≡ c.args.second = omega (arith, ints, sum.1, v) in
    rw there at m
