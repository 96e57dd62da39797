use Rattle.std.proofs.Common.{◌*◌}
use Rattle.cronplan_forms.specs.Months.{week_text}
use Rattle.cronplan_forms.proofs.MonthParts.{more}
use Rattle.cronplan_forms.proofs.month.push_weeks.Goals as goal

pub loop-week-preserved : goal.loop-week-preserved
loop-week-preserved c = more (λ week. week_text c.args.month (7 * week)) c.loop-week.week _ _ _ c.loop-week.invariant c.in_ok-push_week.ensures
