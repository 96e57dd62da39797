use Rattle.std.proofs.Common.{◌≡◌, ◌++◌, length, pos, ◌+ℤ◌, ◌-ℤ◌, ◌≤ℤ◌, unsigned_abs}
use Rattle.croner_base.specs.Private.ZoneSteps.{period}
use Rattle.croner_base.specs.ZoneTable.{window_changes}
use Rattle.croner_base.proofs.time.table.of_zone.add_periods.Given as goal

abbrev pub invariant-loop-end : goal.invariant-loop-end
invariant-loop-end l = record {
  from : (l.fn.first +ℤ pos period) ≤ℤ l.end;
  until : l.end ≤ℤ l.fn.last;
  items : l.changes.items ≡ (l.fn.changes.items ++ window_changes l.fn.zone l.fn.first (l.end -ℤ pos period)) ++ window_changes l.fn.zone (l.end -ℤ pos period) l.end;
  count : l.count ≡ length (window_changes l.fn.zone (l.end -ℤ pos period) l.end);
}

abbrev pub decreases-loop-end : goal.decreases-loop-end
decreases-loop-end l = unsigned_abs (l.fn.last -ℤ l.end)
