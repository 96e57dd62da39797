use Rattle.std.proofs.Common.{◌∙◌, ap, arith, FitsSigned, w64, pos, ◌*ℤ◌}
use Rattle.std.proofs.lemmas.Int.{to_z-of_z}
use Rattle.std.specs.Int.{w128}
use Rattle.jiff_core.specs.DateTime.{civil_nanos}
use Rattle.jiff_core.proofs.SignedLemmas.{signed_arith}
use Rattle.croner_base.proofs.clocks.Seconds.{civil_at}
use Rattle.croner_base.proofs.time.clocked.DateTimeClocked.at_second.Goals as goal

pub returns-in-Ok : goal.returns-in-Ok
returns-in-Ok c =
    let f : FitsSigned w64 c.args.second = c.ranges.second in
    let long : FitsSigned w128 c.args.second = omega (arith, signed_arith) in
    let product : FitsSigned w128 (c.args.second *ℤ pos 1_000_000_000) = omega (arith, signed_arith) in
    let nanos = simp to_z-of_z at c.in-Ok.ensures.value in
    civil_at c.args.second c.from_plain.result (ap civil_nanos c.from_plain.ensures ∙ nanos)
