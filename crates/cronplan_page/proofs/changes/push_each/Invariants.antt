use Rattle.std.proofs.Common.{◌≡◌, ◌++◌, drop, string_bytes}
use Rattle.std.specs.List.{flat_map}
use Rattle.cronplan_page.specs.ClockChanges.{change_line}
use Rattle.cronplan_page.proofs.changes.push_each.Given as goal

abbrev pub invariant-loop-change : goal.invariant-loop-change
invariant-loop-change l = string_bytes l.out ++ flat_map change_line (drop l.change-index l.changes) ≡ string_bytes l.initial.out ++ flat_map change_line l.changes
