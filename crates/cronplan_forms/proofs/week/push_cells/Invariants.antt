use Rattle.std.proofs.Common.{◌≡◌, ◌++◌, drop, string_bytes}
use Rattle.std.specs.List.{flat_map}
use Rattle.std.specs.Prelude.{codes}
use Rattle.cronplan_forms.specs.Weeks.{sign_of}
use Rattle.cronplan_forms.proofs.week.push_cells.Given as goal

abbrev pub invariant-loop-cell : goal.invariant-loop-cell
invariant-loop-cell l = string_bytes l.text ++ flat_map (λ cell. sign_of l.signs cell ++ codes " ") (drop l.cell-index l.cells) ≡ string_bytes l.initial.text ++ flat_map (λ cell. sign_of l.signs cell ++ codes " ") l.cells
