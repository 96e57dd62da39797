use Rattle.std.proofs.Common.{◌≡◌, ◌≤◌, ◌+◌, length, ◌≤ℤ◌, ℤ}
use Rattle.croner_base.specs.TableZone.{table_zone}
use Rattle.croner_base.specs.declared.time.Direction.TheVariants.{Backward}
use Rattle.croner.specs.Views.{job_of}
use Rattle.crontab_runs.specs.Starts.{Starts}
use Rattle.crontab_runs.specs.Views.{cron_job_of}
use Rattle.crontab_runs.specs.Private.Known.{IsKnown}
use Rattle.crontab_runs.specs.Private.Stretches.{begin_of, end_of}
use Rattle.crontab_runs.proofs.job.CrontabJob.last_until.Given as goal

abbrev pub invariant-loop-step : goal.invariant-loop-step
invariant-loop-step l = record {
  table : l.table ≡ l.until.table.now;
  second : l.from ≡ l.until.second;
  few : l.count ≤ length l.table.changes.items;
  back : (l.changes + l._step) ≤ l.count;
  reached : begin_of l.table.changes.items l.changes ≤ℤ l.from;
  none : (i : ℤ) → i ≤ℤ l.until.second → end_of l.table.changes.items l.changes ≤ℤ i → Starts (cron_job_of l.self) (table_zone l.table) i → ⊥;
  known : IsKnown (job_of l.self.cron) l.known;
  backward : l.known.direction ≡ Backward;
}
