use Rattle.std.proofs.Common.{◌≡◌, ◌≤◌, ◌≤ℤ◌, IsTrue, drop}
use Rattle.croner_base.specs.Limits.{most_changes, most_gap_seconds}
use Rattle.croner_base.specs.Table.{first_instant, is_offset, is_calm_table}
use Rattle.croner_base.proofs.tables.TableCheck.{goes_on}
use Rattle.croner_base.proofs.time.table.check.is_calm.Given as goal

abbrev pub invariant-loop-change : goal.invariant-loop-change
invariant-loop-change l = record {
  offset_in : IsTrue (is_offset l.tally.0);
  earliest_in : first_instant ≤ℤ l.tally.1.0;
  met_in : l.tally.1.1.0 ≤ most_changes;
  gaps_in : l.tally.1.1.1.0 ≤ most_gap_seconds;
  onward : is_calm_table l.fn.first_offset l.fn.changes ≡ goes_on (record { offset = l.tally.0; earliest = l.tally.1.0; met = l.tally.1.1.0; gap_seconds = l.tally.1.1.1.0 }) (drop l.change-index l.changes);
}
