use Rattle.std.proofs.Common.{◌≡◌, ◌+◌, false}
use Rattle.std.specs.List.{list_any, range_with_len}
use Rattle.cronplan_forms.specs.Months.{has_line}
use Rattle.cronplan_forms.proofs.month.is_used.Given as goal

abbrev pub invariant-loop-column : goal.invariant-loop-column
invariant-loop-column l = list_any (λ column. has_line l.month (l.monday + column) l.line) (range_with_len 0 l.column) ≡ false
