use Rattle.std.proofs.Common.{◌∙◌, ◌++◌, ◌∷◌, List, ℕ, ℤ, w64, FitsSigned, string_bytes, ap, subst, rules}
use Rattle.std.proofs.lemmas.Int.{to_z-of_z}
use Rattle.croner_base.specs.declared.time.table.ClockTable.{ClockTable}
use Rattle.croncheck_planner.specs.PlanList.{IsClockAt}
use Rattle.croncheck_planner.proofs.plan.list.moment_text.Goals as goal

pub returns : goal.returns
returns c =
    let shared = c.args.terms.now.shared.now in
    let fits : FitsSigned w64 c.args.second = search rules in
    let clock : List ℕ = string_bytes c.in_ok-text.text in (
      clock,
      string_bytes c.in_ok-other.other,
      subst (λ (table : ClockTable). IsClockAt shared table c.args.second clock) c.table-table.ensures
          (subst (λ (second : ℤ). IsClockAt shared c.table-table.result.now second clock) (to_z-of_z w64 c.args.second fits) c.in_ok-text.ensures),
      c.in_ok-other.ensures,
      c.in_ok-push_below.ensures ∙ ap (λ (other : List ℕ). clock ++ (other ++ 10 ∷ c.args.line.now)) c.as_str.ensures.value,
    )
