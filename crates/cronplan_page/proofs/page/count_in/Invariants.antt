use Rattle.std.proofs.Common.{◌≡◌, ◌≤◌, ◌*◌, ◌^◌, take}
use Rattle.cronplan.specs.Counts.{count_of}
use Rattle.cronplan_page.proofs.page.count_in.Given as goal

abbrev pub invariant-loop-start : goal.invariant-loop-start
invariant-loop-start l = record {
  counted : l.count ≡ count_of (take l.start-index l.starts);
  fits : l.count ≤ 2 ^ 32 * l.start-index;
}
