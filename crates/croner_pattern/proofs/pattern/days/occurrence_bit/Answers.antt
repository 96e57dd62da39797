use Rattle.std.proofs.Common.{arith}
use Rattle.croner_pattern.proofs.days.DayTable.{nth_is}
use Rattle.croner_pattern.proofs.pattern.days.occurrence_bit.Goals as goal

pub returns-in-0 : goal.returns-in-0
returns-in-0 c first h = nth_is first c.args.day 0 h c.requires.0 c.requires.1 c.in-0.is

pub returns-in-1 : goal.returns-in-1
returns-in-1 c first h = nth_is first c.args.day 1 h c.requires.0 c.requires.1 c.in-1.is

pub returns-in-2 : goal.returns-in-2
returns-in-2 c first h = nth_is first c.args.day 2 h c.requires.0 c.requires.1 c.in-2.is

pub returns-in-3 : goal.returns-in-3
returns-in-3 c first h = nth_is first c.args.day 3 h c.requires.0 c.requires.1 c.in-3.is

pub returns-in_default : goal.returns-in_default
returns-in_default c first h = nth_is first c.args.day 4 h c.requires.0 c.requires.1 (omega arith)
