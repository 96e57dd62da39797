use Rattle.croner_pattern.proofs.days.DayTable.{last_is}
use Rattle.croner_pattern.proofs.pattern.days.is_last_weekday.Goals as goal

pub returns : goal.returns
returns c first h =
    last_is c.args.length first c.args.day c.requires.length.0 c.requires.length.1 c.requires.day.0 c.requires.day.1 h
