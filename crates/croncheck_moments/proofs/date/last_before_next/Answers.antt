use Rattle.std.proofs.Common.{◌≡◌, ◌+ℤ◌, pos, Result, subst}
use Rattle.std.specs.Prelude.{IfOk}
use Rattle.jiff.specs.ZoneView.{plain_zone}
use Rattle.jiff_core.specs.Date.{epoch_day}
use Rattle.jiff_core.specs.declared.civil.date.Date.{Date}
use Rattle.jiff_core.specs.declared.error.Error.{Error}
use Rattle.croncheck_moments.proofs.Dates.{next_last}
use Rattle.croncheck_moments.proofs.date.last_before_next.Goals as goal

pub returns-in-Ok : goal.returns-in-Ok
returns-in-Ok c =
    next_last (plain_zone c.args.zone.now) c.args.date c.in-Ok.next c.begin_of.result c.second_before.result
    (subst (λ (r : Result Date Error). IfOk r (λ d. epoch_day d ≡ (epoch_day c.args.date +ℤ pos 1))) c.in-Ok.is c.tomorrow.ensures.value)
    c.begin_of.ensures c.second_before.ensures
