use Rattle.std.proofs.Common.{◌≡◌, take}
use Rattle.croncheck_planner.specs.PagePlans.{lines_told, warnings_in}
use Rattle.croncheck_planner.proofs.planner.page.page_lines.Given as goal

abbrev pub invariant-loop-finding : goal.invariant-loop-finding
invariant-loop-finding l = record {
  told : lines_told l.lines.items ≡ warnings_in (take l.finding-index l.fn.found);
}
