use Rattle.std.proofs.Common.{◌≡◌, ◌++◌, drop, string_bytes}
use Rattle.std.specs.List.{flat_map}
use Rattle.cronplan_page.specs.Weeks.{cell_text}
use Rattle.cronplan_page.proofs.week.push_cells.Given as goal

abbrev pub invariant-loop-cell : goal.invariant-loop-cell
invariant-loop-cell l = string_bytes l.out ++ flat_map cell_text (drop l.cell-index l.cells) ≡ string_bytes l.initial.out ++ flat_map cell_text l.cells
