use Rattle.std.proofs.Common.{◌≡◌, map, take}
use Rattle.croncheck_planner.specs.PagePlans.{lines_told, warnings_of}
use Rattle.croncheck_planner.proofs.planner.page.lines_of.Given as goal

abbrev pub invariant-loop-job : goal.invariant-loop-job
invariant-loop-job l = record {
  told : map (λ lines. lines_told lines.items) l.all.items ≡ warnings_of (take l.job-index l.fn.found);
}
