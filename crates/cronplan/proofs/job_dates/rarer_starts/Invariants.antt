use Rattle.std.proofs.Common.{◌≡◌, take, filter, not, unwrap_or}
use Rattle.std.specs.BTreeMap.{get}
use Rattle.std.specs.Ordering.{nat_cmp}
use Rattle.cronplan.specs.declared.start.JobStart.{JobStart}
use Rattle.cronplan.specs.JobDates.{are_all}
use Rattle.cronplan.proofs.job_dates.rarer_starts.Given as goal

abbrev pub invariant-loop-start : goal.invariant-loop-start
invariant-loop-start l = l.rarer.items ≡ filter (λ (s : JobStart). not (are_all l.dates (unwrap_or (get nat_cmp l.counts s.job) 0))) (take l.start-index l.starts)
