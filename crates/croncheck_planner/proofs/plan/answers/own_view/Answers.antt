use Rattle.croncheck_planner.proofs.plan.answers.own_view.Goals as goal

pub returns-clause-view : goal.returns-clause-view
returns-clause-view c = λ planned same.
    let view = c.view_of.ensures.view planned same in
    record { plan = view.plan; table = view.table; jobs_are = view.jobs_are; frequent = view.frequent; is_cut = view.is_cut }
