use Rattle.std.proofs.Common.{rules}
use Rattle.croner_scheduler.proofs.Places.{ids_alone}
use Rattle.croner_scheduler.proofs.into_jobs.IntoJobsIterator.next.Goals as goal

pub returns-in_err-place-clause-steps : goal.returns-in_err-place-clause-steps
returns-in_err-place-clause-steps g c = search (rules, ids_alone)
