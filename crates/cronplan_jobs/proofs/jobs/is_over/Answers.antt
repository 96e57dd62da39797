use Rattle.std.proofs.Common.{◌↔◌, ℕ, Bool, Option, sym, subst}
use Rattle.std.specs.Prelude.{IsTrue, IfOk}
use Rattle.cronplan_jobs.specs.Jobs.{IsOver}
use Rattle.cronplan_jobs.proofs.jobs.is_over.Goals as goal

pub returns-in-Some : goal.returns-in-Some
returns-in-Some c =
    subst (λ (most : Option ℕ). IfOk c.is_frequent.result (λ (b : Bool). IsTrue b ↔ IsOver most c.args.starts.now)) (sym c.in-Some.is) c.is_frequent.ensures
