use Rattle.std.proofs.Common.{◌≡◌, length}
use Rattle.croner_scheduler.specs.Stops.{stops_in}
use Rattle.croner_scheduler.proofs.stops.StopsIterator.next.Given as goal

abbrev pub invariant-loop-id : goal.invariant-loop-id
invariant-loop-id g l = stops_in l.self-inside.jobs ≡ stops_in l.initial.self-inside.jobs

abbrev pub decreases-loop-id : goal.decreases-loop-id
decreases-loop-id g l = length l.self-inside.jobs
