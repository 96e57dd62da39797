-- For which minutes that the clock has skipped cron starts a job. Source: the main loop of cron 3.0pl1-162, as `Starts` has it.
use Rattle.std.specs.Prelude.{◌≡◌, ℤ, pos, ◌*ℤ◌, ◌<ℤ◌, ◌≤ℤ◌}
use Rattle.croner_base.specs.Zone.{Zone}
use Rattle.crontab_runs.specs.Starts.{minute_of, due_after, CronJob, Turns, IsGreatestBefore}

-- cron starts a job at i for the minute k, which comes before the one that the clock shows there
pub record MakesUpFor (job : CronJob) (z : Zone) (i k : ℤ) : Type 0 where
  pub turns : Turns z i
  pub before : ℤ
  pub greatest : IsGreatestBefore z i before
  pub due : due_after job.starred before (minute_of (z.reads i)) <ℤ k
  pub earlier : k <ℤ minute_of (z.reads i)
  pub named : job.names k

-- the first of these minutes begins with the wall second w
pub record MakesUpFrom (job : CronJob) (z : Zone) (i w : ℤ) : Type 0 where
  pub begins : w ≡ minute_of w *ℤ pos 60
  pub makes : MakesUpFor job z i (minute_of w)
  pub first : (j : ℤ) → MakesUpFor job z i j → minute_of w ≤ℤ j

-- there is none
abbrev pub MakesUpForNone : CronJob → Zone → ℤ → Type 0
MakesUpForNone job z i = (k : ℤ) → ¬ (MakesUpFor job z i k)
