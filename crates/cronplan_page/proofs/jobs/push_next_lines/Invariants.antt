use Rattle.std.proofs.Common.{◌≡◌, ◌++◌, drop, string_bytes}
use Rattle.std.specs.List.{flat_map}
use Rattle.cronplan_page.specs.PlanJobs.{next_line}
use Rattle.cronplan_page.proofs.jobs.push_next_lines.Given as goal

abbrev pub invariant-loop-start : goal.invariant-loop-start
invariant-loop-start l = string_bytes l.out ++ flat_map next_line (drop l.start-index l.starts) ≡ string_bytes l.initial.out ++ flat_map next_line l.starts
