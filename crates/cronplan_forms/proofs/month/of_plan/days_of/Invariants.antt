use Rattle.cronplan_forms.specs.PlanMonths.{AreMonthDays, first_of}
use Rattle.cronplan_forms.proofs.month.of_plan.days_of.Given as goal

abbrev pub invariant-loop-place : goal.invariant-loop-place
invariant-loop-place l = AreMonthDays l.told.dates l.told.titles.now (first_of l.fn.month.number) l.place l.days.items
