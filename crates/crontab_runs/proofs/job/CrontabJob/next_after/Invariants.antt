use Rattle.std.proofs.Common.{◌≡◌, ◌≤◌, ◌+◌, length, pos, ◌+ℤ◌, ◌<ℤ◌, ℤ}
use Rattle.croner_base.specs.TableZone.{table_zone}
use Rattle.croner_base.specs.declared.time.Direction.TheVariants.{Forward}
use Rattle.croner.specs.Views.{job_of}
use Rattle.crontab_runs.specs.Starts.{Starts}
use Rattle.crontab_runs.specs.Views.{cron_job_of}
use Rattle.crontab_runs.specs.Private.Known.{IsKnown}
use Rattle.crontab_runs.specs.Private.Stretches.{begin_of, end_of}
use Rattle.crontab_runs.proofs.job.CrontabJob.next_after.Given as goal

abbrev pub invariant-loop-step : goal.invariant-loop-step
invariant-loop-step l = record {
  table : l.table ≡ l.after.table.now;
  second : l.from ≡ l.after.second +ℤ pos 1;
  within : l.changes ≤ length l.table.changes.items;
  ahead : l._step ≤ l.changes;
  last : l.end ≡ length l.table.changes.items + 1;
  reached : l.from <ℤ end_of l.table.changes.items l.changes;
  none : (i : ℤ) → l.after.second <ℤ i → i <ℤ begin_of l.table.changes.items l.changes → Starts (cron_job_of l.self) (table_zone l.table) i → ⊥;
  known : IsKnown (job_of l.self.cron) l.known;
  forward : l.known.direction ≡ Forward;
}
