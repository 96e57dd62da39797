use Rattle.cronplan_forms.proofs.MonthGrids.{months_more}
use Rattle.cronplan_forms.proofs.month.of_plan.grids_between.Goals as goal

pub loop-place-preserved : goal.loop-place-preserved
loop-place-preserved c =
    months_more c.args.told.dates c.args.told.titles.now c.args.first.number c.loop-place.place c.months_later.result.number c.loop-place.grids c.push_grid.new.grids c.loop-place.invariant
    c.in_ok-push_grid.ensures c.months_later.ensures
