use Rattle.std.proofs.Common.{◌≡◌, ◌-◌, ◌++◌, map, drop, take}
use Rattle.croner_base.specs.Private.ZoneSteps.{again}
use Rattle.croner_base.proofs.time.table.of_zone.add_again.Given as goal

abbrev pub invariant-loop-place : goal.invariant-loop-place
invariant-loop-place l = l.changes.items ≡ l.fn.changes.items ++ map again (take (l.place - l.first) (drop l.first l.fn.changes.items))
