use Rattle.std.proofs.Common.{ℤ, w64, FitsSigned, IfOk, subst, rules}
use Rattle.std.proofs.lemmas.Int.{to_z-of_z}
use Rattle.jiff.specs.ZoneView.{plain_zone}
use Rattle.croncheck_runs.specs.Clock.{start_after, IsFollowed, IsStartFrom, IsStopAfter}
use Rattle.croncheck_runs.proofs.Results.{if_ok_so}
use Rattle.croncheck_runs.proofs.Stops.{next_from}
use Rattle.croncheck_runs.proofs.clock.start_after.Goals as goal

pub returns-in-Some-2 : goal.returns-in-Some-2
returns-in-Some-2 c =
    let tz = plain_zone c.args.zone.now in
    let not : ¬ (IsFollowed tz (start_after c.args.stop)) = search rules in
    let after : IsStopAfter tz c.args.stop c.in-Some-2.again = search rules in
    let fits : FitsSigned w64 c.in-Some-2.again = search rules in
    if_ok_so c.start_from-in-Some-2.result (λ found is. next_from tz c.args.stop c.in-Some-2.again found not after is)
    (subst (λ (again : ℤ). IfOk c.start_from-in-Some-2.result (IsStartFrom tz again)) (to_z-of_z w64 c.in-Some-2.again fits) c.start_from-in-Some-2.ensures)
