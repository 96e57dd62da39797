use Rattle.std.proofs.Common.{sym, subst}
use Rattle.croner_scheduler.proofs.NextRuns.{fits_found}
use Rattle.croner_scheduler.specs.Kept.{FitsNext}
use Rattle.croner_scheduler.proofs.waiting.next_of.Goals as goal

pub returns-in-Ok-clause-fits : goal.returns-in-Ok-clause-fits
returns-in-Ok-clause-fits g c =
    let runs = g.J.Recurring.runs c.args.job.now in
    let position = g.T.CronDateTime.moment c.args.position.now in
    let found = c.in-Ok.found in
    subst (FitsNext runs position) (sym c.next_of_run.ensures)
    (fits_found runs position (g.T.CronDateTime.moment found) (g.met.T.Clocked.holds_its_second found) c.in-Ok.ensures.found)
