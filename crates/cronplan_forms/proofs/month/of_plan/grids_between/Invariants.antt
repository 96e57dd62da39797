use Rattle.cronplan_forms.specs.Private.Grids.{HasMonths}
use Rattle.cronplan_forms.proofs.month.of_plan.grids_between.Given as goal

abbrev pub invariant-loop-place : goal.invariant-loop-place
invariant-loop-place l = HasMonths l.told.dates l.told.titles.now l.first.number l.place l.grids
