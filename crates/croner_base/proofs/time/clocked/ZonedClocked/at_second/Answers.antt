use Rattle.std.proofs.Common.{◌∙◌, ap, FitsSigned, w64}
use Rattle.std.proofs.lemmas.Int.{to_z-of_z}
use Rattle.croner_base.proofs.clocks.Seconds.{zoned_at}
use Rattle.croner_base.proofs.time.clocked.ZonedClocked.at_second.Goals as goal

pub returns-in-Ok : goal.returns-in-Ok
returns-in-Ok c =
    let f : FitsSigned w64 c.args.second = c.ranges.second in
    let nanos = simp to_z-of_z at c.in-Ok.ensures.value in
    zoned_at c.args.self.now c.to_zoned.result c.args.second
    (ap (λ t. t.nanosecond) c.to_zoned.ensures.instant ∙ nanos) (c.to_zoned.ensures.zone ∙ c.time_zone.ensures)
