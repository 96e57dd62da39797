use Rattle.std.proofs.Common.{◌∙◌, ◌++◌, ◌∷◌, [], ℤ, List, ap, w64}
use Rattle.std.specs.Prelude.{map}
use Rattle.std.proofs.lemmas.Int.{to_z-of_z}
use Rattle.std.proofs.lemmas.List.{map_push}
use Rattle.cronplan_forms.specs.declared.month.Titled.{Titled}
use Rattle.cronplan_forms.specs.PlanMonths.{shown_title}
use Rattle.cronplan_forms.proofs.month.titles.push_title.Goals as goal

pub returns : goal.returns
returns c =
    ap (λ (xs : List Titled). map shown_title xs) c.in_ok-push.ensures.items ∙ map_push shown_title c.args.titles.now.items _
    ∙ ap (λ (i : ℤ). map shown_title c.args.titles.now.items ++ (i, c.args.title.now) ∷ []) (to_z-of_z w64 c.args.date c.ranges.date)
