-- When the jobs run that are no patterns alone.
use Rattle.std.specs.Prelude.{ℤ}
use Rattle.croner.specs.Recurring.{runs_of}
use Rattle.croner.specs.Views.{job_of}
use Rattle.croner.specs.Zone.{Zone}
use Rattle.croner_examples.specs.declared.plan.Plan.{Plan}
use Rattle.croner_examples.specs.declared.plan.Plan.TheVariants.{ByPattern, AsCron, OnWorkdays, AtIntervals}
use Rattle.croner_jobs.specs.Runs.{interval_runs, kept_runs}
use Rattle.crontab_runs.specs.Starts.{Starts}
use Rattle.crontab_runs.specs.Views.{cron_job_of}

-- the runs of each kind of plan
abbrev pub plan_runs : Plan → Zone → ℤ → Type 0
plan_runs (ByPattern cron) = runs_of (job_of cron)
plan_runs (AsCron job) = Starts (cron_job_of job)
plan_runs (OnWorkdays workdays) = kept_runs workdays.dates (runs_of (job_of workdays.job))
plan_runs (AtIntervals interval) = interval_runs interval.first interval.seconds
