use Rattle.std.proofs.Common.{◌≡◌, ℕ, take, unwrap_or}
use Rattle.std.specs.BTreeMap.{get}
use Rattle.std.specs.Ordering.{nat_cmp}
use Rattle.std.specs.Prelude.{count_by}
use Rattle.cronplan.specs.JobDates.{is_of_job}
use Rattle.cronplan.proofs.job_dates.job_counts.Given as goal

abbrev pub invariant-loop-start : goal.invariant-loop-start
invariant-loop-start l = (job : ℕ) → unwrap_or (get nat_cmp l.counts job) 0 ≡ count_by (is_of_job l.dates job) (take l.start-index l.firsts)
