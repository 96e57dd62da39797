use Rattle.std.proofs.Common.{◌≡◌, ◌++◌, drop, string_bytes}
use Rattle.std.specs.List.{flat_map}
use Rattle.cronplan_page.specs.PlanJobs.{frequent_line}
use Rattle.cronplan_page.proofs.jobs.push_frequent_lines.Given as goal

abbrev pub invariant-loop-job : goal.invariant-loop-job
invariant-loop-job l = string_bytes l.out ++ flat_map (frequent_line l.jobs) (drop l.job-index l.frequent) ≡ string_bytes l.initial.out ++ flat_map (frequent_line l.jobs) l.frequent
