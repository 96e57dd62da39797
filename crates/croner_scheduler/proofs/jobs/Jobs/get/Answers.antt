use Rattle.std.proofs.Common.{sym, ap, ◌∙◌}
use Rattle.croner_scheduler.proofs.Places.{has_none, is_job}
use Rattle.croner_scheduler.specs.Ids.{job_of}
use Rattle.croner_scheduler.proofs.jobs.Jobs.get.Goals as goal

pub returns-in-Some : goal.returns-in-Some
returns-in-Some g c =
    let self = c.self.inside in
    c.as_ref.ensures.value
    ∙ is_job self.ids.items self.places.items self.count self.ids.next c.self.invariant.0 c.in-Some.place c.args.id
    c.in-Some.ensures.found c.index.result.now c.index.ensures
    ∙ ap (λ jobs. job_of jobs c.args.id) c.self.view_is

pub returns-in-None : goal.returns-in-None
returns-in-None g c =
    let self = c.self.inside in
    sym (has_none self.ids.items self.places.items self.count self.ids.next c.self.invariant.0 c.args.id c.in-None.ensures.none) ∙ ap (λ jobs. job_of jobs c.args.id) c.self.view_is
