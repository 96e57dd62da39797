use Rattle.std.proofs.Common.{ℤ, w64, FitsSigned, refl, subst, rules}
use Rattle.std.proofs.lemmas.Int.{to_z-of_z}
use Rattle.jiff.specs.ZoneView.{plain_zone}
use Rattle.croncheck_runs.specs.Clock.{IsNext}
use Rattle.croncheck_runs.proofs.clock.refusal_by.Goals as goal

pub returns-in-Ok : goal.returns-in-Ok
returns-in-Ok c =
    let fits : FitsSigned w64 c.args.stop.second = search rules in
    (refl, subst (λ (stop : ℤ). IsNext (plain_zone c.args.zone.now) stop c.in-Ok.next) (to_z-of_z w64 c.args.stop.second fits) c.in-Ok.ensures)
