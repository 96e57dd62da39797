use Rattle.std.proofs.Common.{◌≡◌, length}
use Rattle.std.specs.Vec.Iter.{into_iter_items}
use Rattle.croner_scheduler.specs.Private.Places.{entries_in}
use Rattle.croner_scheduler.proofs.into_jobs.IntoJobsIterator.next.Given as goal

abbrev pub invariant-loop-id : goal.invariant-loop-id
invariant-loop-id g l =
    entries_in l.self-inside.ids (into_iter_items l.self-inside.places) ≡ entries_in l.initial.self-inside.ids (into_iter_items l.initial.self-inside.places)

abbrev pub decreases-loop-id : goal.decreases-loop-id
decreases-loop-id g l = length l.self-inside.ids
