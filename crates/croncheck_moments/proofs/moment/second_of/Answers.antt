use Rattle.std.proofs.Common.{sym, subst}
use Rattle.jiff.specs.ZoneView.{plain_zone}
use Rattle.croncheck_moments.specs.declared.moment.Moment.{Moment}
use Rattle.croncheck_moments.specs.Moment.{IsSecondOf}
use Rattle.croncheck_moments.proofs.moment.second_of.Goals as goal

pub returns-in-Civil : goal.returns-in-Civil
returns-in-Civil c = subst (λ (m : Moment). IsSecondOf (plain_zone c.args.zone.now) c.args.now m c.second_shown.result) (sym c.in-Civil.is) c.second_shown.ensures
