use Rattle.std.proofs.Common.{rules, ◌≡◌, sym, subst, ℤ, true, Some, IfSome, option_map, w64, SFits}
use Rattle.std.proofs.lemmas.Int.{to_z-of_z}
use Rattle.std.specs.Option.{IsSomeAnd}
use Rattle.croner_base.specs.Clocked.{IsAtSecond}
use Rattle.croner_base.specs.Zone.{at_instant}
use Rattle.croner_scheduler.specs.Ids.{job_of}
use Rattle.croner_scheduler.specs.Kept.{standing_of}
use Rattle.croner_scheduler.specs.Private.Steps.{is_next_at, is_awaited_at}
use Rattle.croner_scheduler.proofs.Given.{run_found}
use Rattle.croner_scheduler.proofs.Puts.{fits_there}
use Rattle.croner_scheduler.proofs.scheduler.Scheduler.run_of.Goals as goal

pub returns : goal.returns
returns g c =
    let moment = g.T.CronDateTime.moment in
    let self = c.args.self.now in
    let w = c.in_ok-waiting.waiting.now in
    let there : job_of self.jobs c.args.turn.id ≡ Some w = search rules in
    let fits : SFits w64 c.args.turn.second = search rules in
    let at : IsAtSecond moment (moment w.position).zone c.args.turn.second c.at_second.result =
    subst (λ (z : ℤ). IsAtSecond moment (moment w.position).zone z c.at_second.result) (to_z-of_z w64 c.args.turn.second fits) c.at_second.ensures in
    let next : is_next_at c.args.turn.second w.next ≡ true = subst (λ o. is_awaited_at c.args.turn.second o ≡ true) there c.requires in
    subst (λ o. IsSomeAnd c.at_second.result (λ t. IfSome (option_map (standing_of moment) o) (λ s. moment t ≡ at_instant s.position.zone c.args.turn.second))) (sym there)
    (run_found moment c.args.turn.second g.J.Recurring.runs w (fits_there g.J.Recurring.runs moment (job_of self.jobs c.args.turn.id) w (self.fits c.args.turn.id) there)
    next c.at_second.result at)
