use Rattle.std.proofs.Common.{sym}
use Rattle.croner.proofs.parser.Names.{month_shown, weekday_shown}
use Rattle.croner.proofs.parser.prepare.number_of.Goals as goal

pub returns-in-Some : goal.returns-in-Some
returns-in-Some c =
    month_shown c.args.quartz c.args.after_dash c.args.name.now c.in-Some.place (sym c.in-Some.ensures.place) c.in-Some.ensures.small

pub returns : goal.returns
returns c =
    weekday_shown c.args.quartz c.args.after_dash c.args.name.now c.in_ok-place.place c.weekday_number.result (search Rattle.std.proofs.Common.rules) (sym c.in_ok-place.ensures.place) c.weekday_number.ensures.number c.weekday_number.ensures.small
