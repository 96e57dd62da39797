use Rattle.std.proofs.Common.{◌≡◌, take}
use Rattle.std.specs.Prelude.{map}
use Rattle.croncheck_planner.specs.PlanAnswers.{jobs_planned, jobs_told}
use Rattle.croncheck_planner.specs.Planner.{is_numbered}
use Rattle.croncheck_planner.proofs.plan.answers.marked_jobs.Given as goal

abbrev pub invariant-loop-job : goal.invariant-loop-job
invariant-loop-job l = record {
  told : jobs_told l.told.items ≡ jobs_planned (take l.job-index l.fn.jobs);
  marked : map (λ j. j.is_ignored) l.told.items ≡ map (λ job. is_numbered l.fn.ignored job.number) (take l.job-index l.fn.jobs);
}
