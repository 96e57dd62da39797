use Rattle.std.proofs.Common.{◌≡◌, ◌++◌, drop, string_bytes}
use Rattle.std.specs.List.{flat_map}
use Rattle.cronplan_page.specs.PlanDays.{start_on}
use Rattle.cronplan_page.proofs.days.push_starts_on.Given as goal

abbrev pub invariant-loop-start : goal.invariant-loop-start
invariant-loop-start l = string_bytes l.out ++ flat_map (start_on l.jobs l.date) (drop l.start-index l.starts) ≡ string_bytes l.initial.out ++ flat_map (start_on l.jobs l.date) l.starts
