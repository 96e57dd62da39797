use Rattle.jiff.specs.ZoneView.{plain_zone}
use Rattle.croncheck_moments.proofs.Dates.{last_shown}
use Rattle.croncheck_moments.proofs.date.last_second_of.Goals as goal

pub returns-in-Some : goal.returns-in-Some
returns-in-Some c =
    last_shown (plain_zone c.args.zone.now) c.args.date c.in-Some.field-0 c.first_second_of.result c.last_before_next.result c.in-Some.is
    c.first_second_of.ensures c.last_before_next.ensures
