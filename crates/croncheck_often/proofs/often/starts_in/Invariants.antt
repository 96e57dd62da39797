use Rattle.std.proofs.Common.{◌≡◌, ◌≤◌, ◌*◌, ◌^◌, take}
use Rattle.croncheck_often.specs.Often.{starts_in}
use Rattle.croncheck_often.proofs.often.starts_in.Given as goal

abbrev pub invariant-loop-run : goal.invariant-loop-run
invariant-loop-run l = record {
  counted : l.starts ≡ starts_in (take l.run-index l.runs);
  fits : l.starts ≤ 2 ^ 32 * l.run-index;
}
