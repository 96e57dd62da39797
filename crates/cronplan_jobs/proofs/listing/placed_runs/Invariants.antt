use Rattle.std.proofs.Common.{◌≡◌, take}
use Rattle.std.specs.Prelude.{map}
use Rattle.cronplan_jobs.specs.Private.Placed.{placed_run}
use Rattle.cronplan_jobs.proofs.listing.placed_runs.Given as goal

abbrev pub invariant-loop-time : goal.invariant-loop-time
invariant-loop-time l = l.starts.items ≡ map (placed_run l.place) (take l.time-index l.fn.times)
