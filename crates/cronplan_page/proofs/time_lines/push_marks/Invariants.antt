use Rattle.std.proofs.Common.{◌≡◌, ◌++◌, drop, string_bytes}
use Rattle.std.specs.List.{flat_map}
use Rattle.cronplan_page.specs.TimeLines.{mark_of}
use Rattle.cronplan_page.proofs.time_lines.push_marks.Given as goal

abbrev pub invariant-loop-start : goal.invariant-loop-start
invariant-loop-start l = string_bytes l.out ++ flat_map (mark_of l.span l.place) (drop l.start-index l.starts) ≡ string_bytes l.initial.out ++ flat_map (mark_of l.span l.place) l.starts
