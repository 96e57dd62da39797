use Rattle.croner_pattern.proofs.days.DayBits.{has-last_week}
use Rattle.croner_pattern.proofs.pattern.mask.month.last_week.Goals as goal

pub returns : goal.returns
returns c place low = has-last_week c.args.length place c.requires.0 c.requires.1 low
