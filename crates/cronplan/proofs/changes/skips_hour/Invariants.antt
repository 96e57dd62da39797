use Rattle.std.proofs.Common.{◌≡◌, take, false}
use Rattle.cronplan.specs.Changes.{skips_hour}
use Rattle.cronplan.proofs.changes.skips_hour.Given as goal

abbrev pub invariant-loop-change : goal.invariant-loop-change
invariant-loop-change l = skips_hour l.hour (take l.change-index l.changes) ≡ false
