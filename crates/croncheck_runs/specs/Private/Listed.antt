-- Times and starts as runs of a listing. Private contracts alone cite these definitions.
use Rattle.std.specs.Prelude.{None}
use Rattle.croner_base.specs.declared.time.table.ClockTable.{ClockTable}
use Rattle.croner_base.specs.declared.time.table.TableTime.{TableTime}
use Rattle.croner_base.specs.TableZone.{table_zone}
use Rattle.crontab_runs.specs.declared.job.Start.{Start}
use Rattle.crontab_runs.specs.Starts.{CronJob}
use Rattle.croncheck_runs.specs.declared.runs.Run.{Run}
use Rattle.croncheck_runs.specs.Runs.{MakesUp}

-- a time as a run
abbrev pub once : TableTime → Run
once t = record { time = t; count = 1; made_up = None }

-- the clock of a run, and its second and count
pub record Seen : Type 0 where
  pub table : ClockTable
  pub start : Start

abbrev pub run_seen : Run → Seen
run_seen run = record { table = run.time.table.now; start = record { second = run.time.second; count = run.count } }

-- a start on a clock
abbrev pub seen_on : ClockTable → Start → Seen
seen_on table s = record { table = table; start = s }

-- a run tells what cron makes up for there
abbrev pub TellsMadeUp : CronJob → Run → Type 0
TellsMadeUp job run = MakesUp job (table_zone run.time.table.now) run.time.second run.made_up
