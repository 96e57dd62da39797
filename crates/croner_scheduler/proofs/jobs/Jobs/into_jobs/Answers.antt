use Rattle.std.proofs.Common.{subst, nat_cmp}
use Rattle.std.specs.List.Sorted.{IsStrictlySortedBy}
use Rattle.std.specs.Map.{keys_of}
use Rattle.croner_scheduler.proofs.Places.{keys_rise}
use Rattle.croner_scheduler.proofs.jobs.Jobs.into_jobs.Goals as goal

pub returns-clause-ordered : goal.returns-clause-ordered
returns-clause-ordered g c =
    let self = c.self.inside in
    subst (λ jobs. IsStrictlySortedBy nat_cmp (keys_of jobs.entries)) c.self.view_is (keys_rise self.ids.items self.places.items c.self.invariant.0.ordered)
