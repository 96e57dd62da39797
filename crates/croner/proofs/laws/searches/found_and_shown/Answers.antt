use Rattle.std.proofs.Common.{inl, inr}
use Rattle.croner.specs.Views.{job_of}
use Rattle.croner.proofs.laws.SearchLaws.{shown_scheduled}
use Rattle.croner.proofs.laws.searches.found_and_shown.Goals as goal

pub returns-clause-interval : goal.returns-clause-interval
returns-clause-interval g c interval =
    let moment = g.T.CronDateTime.moment in
    shown_scheduled (job_of c.args.job.now) (moment c.args.start.now) (moment c.in_ok-found.found) _ c.to_civil-shown.ensures c.in_ok-found.ensures.found.zone (c.in_ok-found.ensures.found.shows (inl interval))

pub returns-clause-single : goal.returns-clause-single
returns-clause-single g c single =
    let moment = g.T.CronDateTime.moment in
    shown_scheduled (job_of c.args.job.now) (moment c.args.start.now) (moment c.in_ok-found.found) _ c.to_civil-shown.ensures c.in_ok-found.ensures.found.zone (c.in_ok-found.ensures.found.shows (inr single))
