use Rattle.std.specs.Prelude.{map}
use Rattle.cronplan_forms.specs.PlanMonths.{shown_daily}
use Rattle.cronplan_forms.proofs.TitleDates.{nothing_told}
use Rattle.cronplan_forms.proofs.month.titles.push_place.Goals as goal

pub returns-in-None : goal.returns-in-None
returns-in-None c = nothing_told c.args.jobs.now c.args.place (map shown_daily c.args.daily.now.items) c.in-None.ensures.lookup.3
