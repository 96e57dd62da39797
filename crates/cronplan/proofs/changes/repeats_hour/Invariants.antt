use Rattle.std.proofs.Common.{◌≡◌, take, false}
use Rattle.cronplan.specs.Changes.{repeats_hour}
use Rattle.cronplan.proofs.changes.repeats_hour.Given as goal

abbrev pub invariant-loop-change : goal.invariant-loop-change
invariant-loop-change l = repeats_hour l.hour (take l.change-index l.changes) ≡ false
