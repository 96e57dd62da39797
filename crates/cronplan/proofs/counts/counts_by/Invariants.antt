use Rattle.std.proofs.Common.{◌≡◌, ◌≤◌, ◌*◌, ◌^◌, ℤ, unwrap_or, take}
use Rattle.std.specs.BTreeMap.{get}
use Rattle.std.specs.Ordering.{int_cmp}
use Rattle.cronplan.specs.Counts.{starts_at, HasNoZero}
use Rattle.cronplan.proofs.counts.counts_by.Given as goal

abbrev pub invariant-loop-start : goal.invariant-loop-start
invariant-loop-start l = record {
  counted : (q : ℤ) → unwrap_or (get int_cmp l.counts q) 0 ≡ starts_at l.unit q (take l.start-index l.starts);
  fits : (q : ℤ) → unwrap_or (get int_cmp l.counts q) 0 ≤ 2 ^ 32 * l.start-index;
  no_zero : HasNoZero l.counts;
}
