use Rattle.std.proofs.Common.{◌≡◌, ◌++◌, drop, string_bytes}
use Rattle.std.specs.List.{flat_map}
use Rattle.cronplan_page.specs.TimeLines.{change_mark}
use Rattle.cronplan_page.proofs.time_lines.push_change_marks.Given as goal

abbrev pub invariant-loop-change : goal.invariant-loop-change
invariant-loop-change l = string_bytes l.out ++ flat_map (change_mark l.span) (drop l.change-index l.changes) ≡ string_bytes l.initial.out ++ flat_map (change_mark l.span) l.changes
