use Rattle.std.proofs.Common.{◌≡◌, ◌≤ℤ◌, ◌-ℤ◌, ◌++◌, unsigned_abs}
use Rattle.croner_base.specs.Private.ZoneSteps.{IsReading}
use Rattle.croner_base.specs.ZoneTable.{ahead_at, changes_after}
use Rattle.croner_base.proofs.time.table.of_zone.add_asked.Given as goal

abbrev pub invariant-loop-shown : goal.invariant-loop-shown
invariant-loop-shown l = record {
  shown : IsReading l.fn.zone l.shown.second l.shown;
  from : l.fn.first ≤ℤ l.shown.second;
  until : l.shown.second ≤ℤ l.fn.last;
  items : l.changes.items ≡ l.fn.changes.items ++ changes_after (ahead_at l.fn.zone) l.fn.first (unsigned_abs (l.shown.second -ℤ l.fn.first));
}

abbrev pub decreases-loop-shown : goal.decreases-loop-shown
decreases-loop-shown l = unsigned_abs (l.fn.last -ℤ l.shown.second)
