use Rattle.croner_base.proofs.clocks.ZonedMoments.{zoned_later, zoned_past}
use Rattle.std.proofs.Common.{FitsSigned, w64}
use Rattle.std.proofs.lemmas.Int.{to_z-of_z}
use Rattle.jiff.specs.ZonedView.{plain_zoned}
use Rattle.croner_base.proofs.time.jiff_impl.zoned.ZonedCronDateTime.checked_add_seconds.Goals as goal

pub returns-in-Ok-clause-value : goal.returns-in-Ok-clause-value
returns-in-Ok-clause-value c =
    let f : FitsSigned w64 c.args.seconds = c.ranges.seconds in
    let n = simp to_z-of_z at c.from_secs.ensures in
    zoned_later (plain_zoned c.args.self.now) (plain_zoned c.in-Ok.sum) c.args.seconds _ n c.in-Ok.ensures.value.0 c.in-Ok.ensures.value.1

pub returns-in-Err-clause-value : goal.returns-in-Err-clause-value
returns-in-Err-clause-value c =
    let f : FitsSigned w64 c.args.seconds = c.ranges.seconds in
    let n = simp to_z-of_z at c.from_secs.ensures in
    zoned_past (plain_zoned c.args.self.now) c.args.seconds _ n (λ h. cc (c.in-Err.ensures.succeeds.1 h))
