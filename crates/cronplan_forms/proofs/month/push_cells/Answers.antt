use Rattle.std.proofs.Common.{◌+◌}
use Rattle.cronplan_forms.specs.Months.{barred_cell}
use Rattle.cronplan_forms.proofs.MonthParts.{more}
use Rattle.cronplan_forms.proofs.month.push_cells.Goals as goal

pub loop-column-preserved : goal.loop-column-preserved
loop-column-preserved c =
    more (λ column. barred_cell c.args.month (c.args.monday + column) c.args.line) c.loop-column.column _ _ _ c.loop-column.invariant c.in_ok-push_barred.ensures
