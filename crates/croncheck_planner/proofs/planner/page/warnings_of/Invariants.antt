use Rattle.std.proofs.Common.{◌≡◌, map, take}
use Rattle.croncheck_planner.specs.PagePlans.{lines_told}
use Rattle.croncheck_planner.proofs.planner.page.warnings_of.Given as goal

abbrev pub invariant-loop-lines : goal.invariant-loop-lines
invariant-loop-lines l = record {
  told : map (λ w. lines_told w.lines.now) l.warnings.items ≡ map (λ lines. lines_told lines.items) (take l.lines-index l.fn.all);
}
