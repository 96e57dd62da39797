use Rattle.std.proofs.Common.{◌≡◌, ◌≤◌, ◌*◌, ◌^◌, ℤ, unwrap_or, take}
use Rattle.std.specs.BTreeMap.{get}
use Rattle.std.specs.Ordering.{int_cmp}
use Rattle.croncheck_often.specs.Often.{starts_on, IsMostADay}
use Rattle.croncheck_often.proofs.often.most_a_day.Given as goal

abbrev pub invariant-loop-run : goal.invariant-loop-run
invariant-loop-run l = record {
  counted : (date : ℤ) → unwrap_or (get int_cmp l.counts date) 0 ≡ starts_on date (take l.run-index l.runs);
  fits : (date : ℤ) → unwrap_or (get int_cmp l.counts date) 0 ≤ 2 ^ 32 * l.run-index;
  most : IsMostADay (take l.run-index l.runs) l.most;
}
