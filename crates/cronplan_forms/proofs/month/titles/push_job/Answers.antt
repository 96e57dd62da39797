use Rattle.std.proofs.Common.{◌∙◌, List, ap}
use Rattle.std.specs.Prelude.{map}
use Rattle.std.proofs.lemmas.List.{map_push}
use Rattle.cronplan_forms.specs.declared.month.Daily.{Daily}
use Rattle.cronplan_forms.specs.PlanMonths.{shown_daily}
use Rattle.cronplan_forms.proofs.month.titles.push_job.Goals as goal

pub returns : goal.returns
returns c = ap (λ (xs : List Daily). map shown_daily xs) c.in_ok-push.ensures.items ∙ map_push shown_daily c.args.daily.now.items _
