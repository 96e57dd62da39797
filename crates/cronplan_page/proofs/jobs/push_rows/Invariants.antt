use Rattle.std.proofs.Common.{◌≡◌, ◌++◌, drop, string_bytes}
use Rattle.cronplan_page.specs.PlanJobs.{job_rows_from}
use Rattle.cronplan_page.proofs.jobs.push_rows.Given as goal

abbrev pub invariant-loop-place : goal.invariant-loop-place
invariant-loop-place l =
    string_bytes l.out ++ job_rows_from l.page l.place (drop l.place l.jobs) ≡ string_bytes l.initial.out ++ job_rows_from l.page 0 l.jobs
