use Rattle.croner_base.proofs.clocks.CivilCalm.{civil_holds}
use Rattle.croner_base.proofs.laws.clocks.civil_time_holds_around.Goals as goal

pub returns : goal.returns
returns c = λ h. civil_holds c.args.start h.0 h.1
