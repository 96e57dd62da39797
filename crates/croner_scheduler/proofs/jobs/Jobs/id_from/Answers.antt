use Rattle.std.proofs.Common.{◌≡◌, subst, ℕ, ◌≤◌, ◌<◌, None, IfSome, IfNone}
use Rattle.croner_scheduler.proofs.Places.{no_job_between, no_job_left}
use Rattle.croner_scheduler.specs.Ids.{job_of}
use Rattle.croner_scheduler.proofs.jobs.Jobs.id_from.Goals as goal

pub returns-clause-between : goal.returns-clause-between
returns-clause-between g c =
    let self = c.self.inside in
    subst (λ jobs. IfSome c.first_from.result (λ k. (other : ℕ) → c.args.id ≤ other → other < k → job_of jobs other ≡ None)) c.self.view_is
    (no_job_between self.ids.items self.places.items c.self.invariant.0.ordered c.args.id c.first_from.result c.first_from.ensures.between)

pub returns-clause-none : goal.returns-clause-none
returns-clause-none g c =
    let self = c.self.inside in
    subst (λ jobs. IfNone c.first_from.result ((other : ℕ) → c.args.id ≤ other → job_of jobs other ≡ None)) c.self.view_is
    (no_job_left self.ids.items self.places.items c.self.invariant.0.ordered c.args.id c.first_from.result c.first_from.ensures.none)
