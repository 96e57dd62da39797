use Rattle.std.proofs.Common.{pos, ◌+ℤ◌, ◌≤ℤ◌}
use Rattle.croner.specs.Views.{job_of}
use Rattle.crontab_runs.specs.Private.Named.{NoneNamedBetween}
use Rattle.crontab_runs.specs.Starts.{NamesMinute}
use Rattle.crontab_runs.proofs.job.CrontabJob.first_named_between.Given as goal

abbrev pub invariant-loop-minute : goal.invariant-loop-minute
invariant-loop-minute l = record {
  none : NoneNamedBetween (NamesMinute (job_of l.self.cron)) l.after l.minute;
  from : (l.after +ℤ pos 1) ≤ℤ l.minute;
}
