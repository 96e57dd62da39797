use Rattle.std.proofs.Common.{◌≡◌, ◌++◌, ◌+◌, string_bytes}
use Rattle.std.specs.List.{flat_map, range_with_len}
use Rattle.cronplan_forms.specs.Months.{barred_cell}
use Rattle.cronplan_forms.proofs.month.push_cells.Given as goal

abbrev pub invariant-loop-column : goal.invariant-loop-column
invariant-loop-column l =
    string_bytes l.text ≡ string_bytes l.initial.text ++ flat_map (λ column. barred_cell l.month (l.monday + column) l.line) (range_with_len 0 l.column)
