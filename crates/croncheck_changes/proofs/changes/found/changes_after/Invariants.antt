use Rattle.std.proofs.Common.{◌≡◌, ◌++◌, drop}
use Rattle.croncheck_changes.proofs.ListedChanges.{watched_of}
use Rattle.croncheck_changes.proofs.changes.found.changes_after.Given as goal

abbrev pub invariant-loop-change : goal.invariant-loop-change
invariant-loop-change l =
    l.changes.items ++ watched_of l.fn.start.second l.offset (drop l.change-index l.listed)
    ≡ watched_of l.fn.start.second l.fn.start.table.now.first_offset l.fn.start.table.now.changes.items
