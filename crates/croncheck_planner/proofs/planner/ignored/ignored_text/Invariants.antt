use Rattle.std.proofs.Common.{◌≡◌, take, string_bytes}
use Rattle.std.specs.List.{flat_map}
use Rattle.croncheck_planner.specs.Ignored.{ignored_line}
use Rattle.croncheck_planner.proofs.planner.ignored.ignored_text.Given as goal

abbrev pub invariant-loop-finding : goal.invariant-loop-finding
invariant-loop-finding l = record {
  told : string_bytes l.text ≡ flat_map (ignored_line l.fn.place.file.now l.fn.place.line) (take l.finding-index l.fn.found);
}
