use Rattle.std.proofs.Common.{◌∙◌, w64, FitsSigned, inr, sym, rules}
use Rattle.std.proofs.lemmas.Int.{to_z-of_z}
use Rattle.croncheck_planner.proofs.plan.first_plan.Goals as goal

pub returns-then-is_enough : goal.returns-then-is_enough
returns-then-is_enough c =
    let end_fits : FitsSigned w64 c.end_from-end.result = search rules in
    let whole_fits : FitsSigned w64 c.args.whole = search rules in record {
      end = c.end_from-end.result;
      within = rw (to_z-of_z w64 c.args.whole whole_fits) at c.end_from-end.ensures;
      found_is = rw (to_z-of_z w64 c.end_from-end.result end_fits) at c.in_ok-found.ensures;
      enough = inr (sym c.is_enough.ensures ∙ c.if-is_enough.true);
    }
