use Rattle.std.proofs.Common.{◌≡◌, subst, ◌≤◌, None}
use Rattle.croner_scheduler.proofs.Places.{no_job, none_from}
use Rattle.croner_scheduler.specs.Ids.{job_of}
use Rattle.croner_scheduler.proofs.jobs.Jobs.next_id.Goals as goal

pub returns-clause-unused : goal.returns-clause-unused
returns-clause-unused g c id le =
    let self = c.self.inside in
    subst (λ jobs. job_of jobs id ≡ None) c.self.view_is (no_job id self.ids.items self.places.items (none_from self.ids.items self.ids.next id c.self.invariant.0.below (subst (λ n. n ≤ id) c.next.ensures le)))
