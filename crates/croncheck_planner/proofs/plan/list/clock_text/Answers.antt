use Rattle.std.proofs.Common.{◌∙◌, w64, FitsSigned, rules}
use Rattle.std.proofs.lemmas.Int.{to_z-of_z}
use Rattle.croncheck_planner.proofs.PlanClocks.{clock_at}
use Rattle.croncheck_planner.proofs.plan.list.clock_text.Goals as goal

pub returns : goal.returns
returns c =
    let fits : FitsSigned w64 c.args.second = search rules in
    clock_at c.clock_text_of.result c.args.shared.now c.args.table.now c.args.second c.in-Ok.time
    (c.in-Ok.ensures.value ∙ to_z-of_z w64 c.args.second fits) c.in-Ok.ensures.table c.clock_text_of.ensures
