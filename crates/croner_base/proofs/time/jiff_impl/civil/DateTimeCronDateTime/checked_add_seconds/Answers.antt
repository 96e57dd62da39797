use Rattle.croner_base.proofs.clocks.CivilMoments.{civil_moment_later, civil_moment_past}
use Rattle.std.proofs.Common.{FitsSigned, w64}
use Rattle.std.proofs.lemmas.Int.{to_z-of_z}
use Rattle.croner_base.proofs.time.jiff_impl.civil.DateTimeCronDateTime.checked_add_seconds.Goals as goal

pub returns-in-Ok-clause-value : goal.returns-in-Ok-clause-value
returns-in-Ok-clause-value c =
    let f : FitsSigned w64 c.args.seconds = c.ranges.seconds in
    let n = simp to_z-of_z at c.from_secs.ensures in
    civil_moment_later c.args.self.now c.in-Ok.sum c.args.seconds _ n c.in-Ok.ensures.value

pub returns-in-Err-clause-value : goal.returns-in-Err-clause-value
returns-in-Err-clause-value c =
    let f : FitsSigned w64 c.args.seconds = c.ranges.seconds in
    let n = simp to_z-of_z at c.from_secs.ensures in
    civil_moment_past c.args.self.now c.args.seconds _ n (λ h. cc (c.in-Err.ensures.succeeds.1 h))
