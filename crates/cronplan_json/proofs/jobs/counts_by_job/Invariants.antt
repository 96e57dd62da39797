use Rattle.std.proofs.Common.{◌≡◌, ◌≤◌, ◌*◌, ◌^◌, ℕ, unwrap_or, take}
use Rattle.std.specs.BTreeMap.{get}
use Rattle.std.specs.Ordering.{nat_cmp}
use Rattle.cronplan_json.specs.Objects.{starts_of}
use Rattle.cronplan_json.proofs.jobs.counts_by_job.Given as goal

abbrev pub invariant-loop-start : goal.invariant-loop-start
invariant-loop-start l = record {
  counted : (place : ℕ) → unwrap_or (get nat_cmp l.counts place) 0 ≡ starts_of place (take l.start-index l.starts);
  fits : (place : ℕ) → unwrap_or (get nat_cmp l.counts place) 0 ≤ 2 ^ 32 * l.start-index;
}
