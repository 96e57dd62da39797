use Rattle.std.proofs.Common.{◌≡◌, ◌++◌, drop, string_bytes}
use Rattle.std.specs.List.{flat_map}
use Rattle.cronplan_page.specs.Fullest.{moment_line}
use Rattle.cronplan_page.proofs.fullest.push_moments.Given as goal

abbrev pub invariant-loop-moment : goal.invariant-loop-moment
invariant-loop-moment l = string_bytes l.out ++ flat_map (moment_line l.jobs l.starts) (drop l.moment-index l.moments) ≡ string_bytes l.initial.out ++ flat_map (moment_line l.jobs l.starts) l.moments
