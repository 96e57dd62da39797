use Rattle.std.proofs.Common.{arith}
use Rattle.croner_pattern.proofs.days.DayBits.{has-below}
use Rattle.croner_pattern.proofs.pattern.mask.month.whole_month.Goals as goal

pub returns : goal.returns
returns c place = has-below c.args.length place (omega arith)
