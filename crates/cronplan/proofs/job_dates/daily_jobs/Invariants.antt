use Rattle.std.proofs.Common.{◌≡◌, take, filter, map, unwrap_or}
use Rattle.std.specs.BTreeMap.{get}
use Rattle.std.specs.Ordering.{nat_cmp}
use Rattle.cronplan.specs.declared.start.JobStart.{JobStart}
use Rattle.cronplan.specs.JobDates.{are_all}
use Rattle.cronplan.proofs.job_dates.daily_jobs.Given as goal

abbrev pub invariant-loop-start : goal.invariant-loop-start
invariant-loop-start l = l.jobs.items ≡ map (λ (s : JobStart). s.job) (filter (λ (s : JobStart). are_all l.dates (unwrap_or (get nat_cmp l.counts s.job) 0)) (take l.start-index l.starts))
