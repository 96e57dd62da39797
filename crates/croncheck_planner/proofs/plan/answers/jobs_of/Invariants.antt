use Rattle.std.proofs.Common.{◌≡◌, take}
use Rattle.croncheck_planner.specs.PlanAnswers.{jobs_planned, jobs_told}
use Rattle.croncheck_planner.proofs.plan.answers.jobs_of.Given as goal

abbrev pub invariant-loop-job : goal.invariant-loop-job
invariant-loop-job l = record {
  told : jobs_told l.told.items ≡ jobs_planned (take l.job-index l.fn.jobs);
}
