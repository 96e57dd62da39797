use Rattle.std.proofs.Common.{List, ℕ, ℤ, w64, FitsSigned, string_bytes, subst, rules}
use Rattle.std.proofs.lemmas.Int.{to_z-of_z}
use Rattle.croncheck_output.specs.Output.{written_of, WritesApart}
use Rattle.croncheck_planner.specs.PlanList.{IsMomentText}
use Rattle.croncheck_output.proofs.OkResults.{if_ok}
use Rattle.croncheck_planner.proofs.plan.list.write_moment.Goals as goal

pub returns : goal.returns
returns g c =
    let terms = c.args.terms.now in
    let fits : FitsSigned w64 c.args.second = search rules in
    let moment : List ℕ = string_bytes c.in_ok-text.text in
    if_ok c.write_apart.result
    (λ writes. (
      moment,
      subst (λ (second : ℤ). IsMomentText terms.settings.now terms.shared.now second c.args.line.now moment) (to_z-of_z w64 c.args.second fits) c.in_ok-text.ensures,
      subst (λ (text : List ℕ). WritesApart text (written_of g.W.Write.contents c.args.output.now) (written_of g.W.Write.contents c.write_apart.new.self)) c.as_str.ensures.value writes,
    ))
    c.write_apart.ensures.written
