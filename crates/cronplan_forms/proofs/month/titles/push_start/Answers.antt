use Rattle.std.specs.Prelude.{map}
use Rattle.cronplan_forms.specs.PlanMonths.{shown_title}
use Rattle.cronplan_forms.proofs.TitleDates.{nothing_titled}
use Rattle.cronplan_forms.proofs.month.titles.push_start.Goals as goal

pub returns-in-None : goal.returns-in-None
returns-in-None c = nothing_titled c.args.jobs.now c.args.start (map shown_title c.args.titles.now.items) c.in-None.ensures.lookup.3
