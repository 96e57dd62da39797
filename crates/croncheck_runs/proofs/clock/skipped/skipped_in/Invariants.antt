use Rattle.std.proofs.Common.{◌≡◌, ◌+◌, drop}
use Rattle.croner_base.specs.Table.{met_gaps}
use Rattle.croncheck_runs.proofs.clock.skipped.skipped_in.Given as goal

abbrev pub invariant-loop-change : goal.invariant-loop-change
invariant-loop-change l = l.skipped + met_gaps l.offset (drop l.change-index l.listed) ≡ met_gaps l.fn.table.first_offset l.fn.table.changes.items
