use Rattle.jiff.specs.ZonedView.{plain_zoned}
use Rattle.croner_base.proofs.clocks.ZonedHolds.{zoned_holds}
use Rattle.croner_base.proofs.laws.clocks.zoned_holds_around.Goals as goal

pub returns : goal.returns
returns c = λ h. zoned_holds (plain_zoned c.args.start.now) h.0 h.1
