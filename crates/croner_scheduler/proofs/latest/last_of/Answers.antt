use Rattle.std.proofs.Common.{rules, ℤ, sym, subst, w64, SFits}
use Rattle.std.proofs.lemmas.Int.{to_z-of_z}
use Rattle.croner_scheduler.proofs.LastRuns.{last_found}
use Rattle.croner_scheduler.specs.Private.Latest.{last_of_run, FitsLast}
use Rattle.croner_scheduler.proofs.latest.last_of.Goals as goal

pub returns-in-Ok-clause-fits : goal.returns-in-Ok-clause-fits
returns-in-Ok-clause-fits g c =
    let runs = g.J.Recurring.runs c.args.job.now in
    let moment = g.T.CronDateTime.moment in
    let whole : SFits w64 c.args.next = search rules in
    subst (FitsLast runs moment c.args.next (moment c.args.until.now)) (sym c.last_of_run.ensures)
    (subst (λ (z : ℤ). FitsLast runs moment c.args.next (moment c.args.until.now) (last_of_run moment z c.args.until.now c.in-Ok.found))
    (sym (to_z-of_z w64 c.args.next whole))
    (last_found runs moment c.args.next c.args.until.now c.in-Ok.found c.in-Ok.ensures.found))
