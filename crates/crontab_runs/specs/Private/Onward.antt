-- Which stretch a search comes to next.
-- Private contracts alone cite these definitions.
use Rattle.std.specs.Prelude.{ℕ, ◌≤◌, ◌<◌, ℤ, ◌<ℤ◌, ◌≤ℤ◌, length}
use Rattle.croner_base.specs.declared.time.table.ClockTable.{ClockTable}
use Rattle.croner_base.specs.TableZone.{table_zone}
use Rattle.crontab_runs.specs.Private.Stretches.{begin_of, end_of}
use Rattle.crontab_runs.specs.Starts.{CronJob, Starts}

-- forward, of the stretches after so many changes and more, another one: nothing is started before it
pub record IsNextStretch (job : CronJob) (table : ClockTable) (changes next : ℕ) : Type 0 where
  pub on : changes ≤ next
  pub within : next ≤ length table.changes.items
  pub none : (i : ℤ) → begin_of table.changes.items changes ≤ℤ i → i <ℤ begin_of table.changes.items next → ¬ (Starts job (table_zone table) i)

-- backward, from the stretch after so many changes, another one: nothing is started between them
pub record IsStretchBefore (job : CronJob) (table : ClockTable) (changes before : ℕ) : Type 0 where
  pub on : before < changes
  pub none : (i : ℤ) → end_of table.changes.items before ≤ℤ i → i <ℤ begin_of table.changes.items changes → ¬ (Starts job (table_zone table) i)
