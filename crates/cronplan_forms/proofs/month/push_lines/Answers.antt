use Rattle.cronplan_forms.specs.Months.{line_text}
use Rattle.cronplan_forms.proofs.MonthParts.{more}
use Rattle.cronplan_forms.proofs.month.push_lines.Goals as goal

pub loop-line-preserved : goal.loop-line-preserved
loop-line-preserved c = more (line_text c.args.month c.args.monday) c.loop-line.line _ _ _ c.loop-line.invariant c.in_ok-push_line.ensures
