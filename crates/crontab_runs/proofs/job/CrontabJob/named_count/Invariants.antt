use Rattle.std.proofs.Common.{pos, ◌+ℤ◌, ◌-ℤ◌, ◌≤ℤ◌}
use Rattle.croner.specs.Views.{job_of}
use Rattle.crontab_runs.specs.Starts.{NamesMinute}
use Rattle.crontab_runs.specs.Private.Due.{IsNamedCount}
use Rattle.crontab_runs.proofs.job.CrontabJob.named_count.Given as goal

abbrev pub invariant-loop-minute : goal.invariant-loop-minute
invariant-loop-minute l = record {
  counted : IsNamedCount (NamesMinute (job_of l.self.cron)) l.after (l.minute -ℤ pos 1) l.count;
  few : (l.after +ℤ pos 1 +ℤ pos l.count) ≤ℤ l.minute;
  upto : l.minute ≤ℤ (l.upto +ℤ pos 1);
}
