use Rattle.std.proofs.Common.{sym, ap, ap₂, length}
use Rattle.croner_scheduler.specs.Private.Places.{entries_in}
use Rattle.croner_scheduler.specs.Stops.{stops_in}
use Rattle.croner_scheduler.proofs.jobs.Jobs.new.Goals as goal
use Rattle.croner_scheduler.proofs.Places.{no_places}

-- src/jobs.rt:47:5
pub invariant_of-result : goal.invariant_of-result
invariant_of-result g c = (
  no_places _ _ c.new.result.next c.new.ensures.items c.new-2.ensures.items,
  ap (λ es. length (stops_in es)) (sym (ap₂ entries_in c.new.ensures.items c.new-2.ensures.items)),
)
