use Rattle.std.proofs.Common.{◌≡◌, ◌∙◌, List, ℕ, ℤ, Bool, true, w64, FitsSigned, subst, sym, rules}
use Rattle.std.proofs.lemmas.Int.{to_z-of_z}
use Rattle.croncheck_output.specs.Output.{written_of}
use Rattle.croncheck_planner.specs.Plan.{is_new}
use Rattle.croncheck_planner.specs.PlanList.{labels, line_text, WritesLine, WritesMoment}
use Rattle.croncheck_output.proofs.OkResults.{if_ok}
use Rattle.croncheck_planner.proofs.plan.list.write_start.Goals as goal

pub returns-then-is_new : goal.returns-then-is_new
returns-then-is_new g c =
    let settings = c.args.terms.now.settings.now in
    let shared = c.args.terms.now.shared.now in
    let all = labels c.args.jobs.now in
    let start = c.args.start.now in
    let old = written_of g.W.Write.contents c.args.output.now in
    let new = written_of g.W.Write.contents c.write_moment.new.output in
    let fits : FitsSigned w64 start.second = search rules in
    let begins : is_new c.args.last start ≡ true = sym c.is_new.ensures ∙ c.if-is_new.true in
    let line : c.as_str.result.now ≡ line_text all start = c.as_str.ensures.value ∙ c.in_ok-line.ensures in
    if_ok c.write_moment.result
    (λ writes. subst (λ (is : Bool). WritesLine settings shared all is start old new) (sym begins)
    (subst (λ (text : List ℕ). WritesMoment settings shared start.second text old new) line
    (subst (λ (second : ℤ). WritesMoment settings shared second c.as_str.result.now old new) (to_z-of_z w64 start.second fits) writes)))
    c.write_moment.ensures
