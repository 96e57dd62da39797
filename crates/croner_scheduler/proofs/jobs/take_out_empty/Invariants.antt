use Rattle.croner_scheduler.proofs.TakenOut.{Moves}
use Rattle.croner_scheduler.proofs.jobs.take_out_empty.Given as goal

abbrev pub invariant-loop-place : goal.invariant-loop-place
invariant-loop-place g l = Moves l.fn.ids.items l.fn.places.items l.kept l.place l.ids.items l.places.items
