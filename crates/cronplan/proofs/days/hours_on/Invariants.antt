use Rattle.std.proofs.Common.{◌≡◌, ◌≤ℤ◌, ◌<◌, ℕ, List, length, get_or, pos, ◌+ℤ◌, ◌*ℤ◌}
use Rattle.cronplan.specs.declared.days.HourCell.{HourCell}
use Rattle.cronplan.specs.declared.start.JobStart.{JobStart}
use Rattle.cronplan.specs.Days.{cell_of}
use Rattle.cronplan.specs.Private.CountedPlan.{IsCounted}
use Rattle.cronplan.proofs.days.hours_on.Given as goal

abbrev pub invariant-loop-hour : goal.invariant-loop-hour
invariant-loop-hour l = record {
  count : l.hour ≡ pos (length l.cells.items);
  bound : l.hour ≤ℤ pos 24;
  each : (starts : List JobStart) → IsCounted starts l.fn.counted → (k : ℕ) (d : HourCell) → k < length l.cells.items
      → get_or l.cells.items k d ≡ cell_of starts l.fn.counted.changes.items l.fn.counted.shown (l.fn.date *ℤ pos 24 +ℤ pos k);
}
