use Rattle.croner_pattern.proofs.days.DayBits.{has-week}
use Rattle.croner_pattern.proofs.pattern.mask.month.days_of_weekdays.Goals as goal

pub returns : goal.returns
returns c place low = has-week c.args.weekdays c.args.first place c.requires.weekdays c.requires.first low
