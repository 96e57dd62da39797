use Rattle.std.proofs.Common.{◌≡◌, ◌≤◌, ◌*◌, ◌^◌, take}
use Rattle.cronplan_page.specs.TimeLines.{count_at}
use Rattle.cronplan_page.proofs.time_lines.count_in.Given as goal

abbrev pub invariant-loop-start : goal.invariant-loop-start
invariant-loop-start l = record {
  counted : l.count ≡ count_at l.place (take l.start-index l.starts);
  fits : l.count ≤ 2 ^ 32 * l.start-index;
}
