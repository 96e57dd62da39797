use Rattle.std.proofs.Common.{◌≡◌, ◌++◌, drop, string_bytes}
use Rattle.std.specs.List.{flat_map}
use Rattle.cronplan_page.specs.Fullest.{name_at}
use Rattle.cronplan_page.proofs.fullest.push_names.Given as goal

abbrev pub invariant-loop-start : goal.invariant-loop-start
invariant-loop-start l = string_bytes l.out ++ flat_map (name_at l.jobs l.second) (drop l.start-index l.starts) ≡ string_bytes l.initial.out ++ flat_map (name_at l.jobs l.second) l.starts
