use Rattle.std.proofs.Common.{◌∙◌, ℕ, List, Option, subst, sym}
use Rattle.croner_base.specs.declared.time.table.ClockTable.{ClockTable}
use Rattle.croncheck_planner.specs.PlanFiles.{IsOtherClockIn, IsOtherTable}
use Rattle.croncheck_planner.proofs.plan.beside.view_beside.Goals as goal

pub returns-clause-zone : goal.returns-clause-zone
returns-clause-zone c = c.view_of.ensures.zone ∙ c.as_str-2.ensures.value

pub returns-clause-jobs : goal.returns-clause-jobs
returns-clause-jobs c = c.view_of.ensures.jobs

pub returns-clause-view : goal.returns-clause-view
returns-clause-view c = λ planned same.
    let view = c.view_of.ensures.view planned same in
    record { plan = view.plan; table = view.table; jobs_are = view.jobs_are; frequent = view.frequent; is_cut = view.is_cut }

pub returns-clause-other : goal.returns-clause-other
returns-clause-other c = λ table.
    subst (λ (name : List ℕ). IsOtherClockIn c.args.terms.now.shared.now.other_zone name c.args.found.now.plan.span c.other_clock.result) c.as_str.ensures.value
    (c.other_clock.ensures c.args.found.now.plan.span
    (subst (λ (t : Option ClockTable). IsOtherTable c.args.terms.now.shared.now.other_zone c.args.found.now.plan.span t) (sym c.as_ref.ensures.value) table))
