-- A start is an instant of a table, and so is the second before it.
use Rattle.std.proofs.Common.{◌≡◌, true, arith, Bool, ℤ, pos, ◌-ℤ◌, ◌≤ℤ◌}
use Rattle.std.proofs.lemmas.Int.{ints}
use Rattle.std.specs.Prelude.{Option, Some, None, MatchOption, IfSome}
use Rattle.croner_base.specs.declared.time.Direction.{Direction}
use Rattle.croner_base.specs.declared.time.Direction.TheVariants.{Forward, Backward}
use Rattle.croner_base.specs.declared.time.table.ClockTable.{ClockTable}
use Rattle.croner_base.specs.declared.time.table.TableTime.{TableTime}
use Rattle.croner_base.specs.Table.{is_table_second, first_instant, last_instant}
use Rattle.croner_base.specs.TableZone.{clock, clock_reads, table_zone, table_moment}
use Rattle.croner_base.proofs.tables.TableOffsets.{calm_offset}
use Rattle.croner_base.proofs.tables.TableTests.{between_test}
use Rattle.croner_pattern.specs.Meaning.{Meaning}
use Rattle.croner.specs.Views.{job_of}
use Rattle.crontab_runs.specs.declared.job.CrontabJob.{CrontabJob}
use Rattle.crontab_runs.specs.declared.job.Start.{Start}
use Rattle.crontab_runs.specs.Listing.{onward_from}
use Rattle.crontab_runs.specs.Searches.{IsStartFound, NoStartLeft}
use Rattle.crontab_runs.specs.Views.{cron_job_of}
use Rattle.crontab_runs.specs.Starts.{minute_of, cron_job, NamesMinute, Starts}
use Rattle.crontab_runs.proofs.DueMinutes.{minute_bounds, due_near}
use Rattle.crontab_runs.proofs.PartStarts.{named_bounds}
use Rattle.crontab_runs.proofs.StretchStarts.{some_named}

-- it lies at most three hours after a minute of the years that a pattern can name
start_bounds : (m : Meaning) (starred : Bool) (t : ClockTable) (i : ℤ) → Starts (cron_job m starred) (table_zone t) i
    → ((first_instant ≤ℤ (i -ℤ pos 1)) × (i ≤ℤ last_instant))
unfolding clock
start_bounds m starred t i (n, some, (minutes, for, count)) =
    let reads : ℤ = clock_reads t.first_offset t.changes.items i in
    let (k, low, high, named) = some_named (NamesMinute m) _ _ minutes for.due (omega (arith, some, count)) in
    let near = due_near starred for.before (minute_of reads) in
    let years = named_bounds m k named in
    let seconds = minute_bounds reads in
    let offset = calm_offset t.first_offset t.changes.items i t.calm in
    (omega (arith, ints, low, high, near, years, seconds, offset), omega (arith, ints, low, high, near, years, seconds, offset))

pub start_held : (m : Meaning) (starred : Bool) (t : ClockTable) (i : ℤ) → Starts (cron_job m starred) (table_zone t) i → is_table_second i ≡ true
start_held m starred t i is =
    let bounds = start_bounds m starred t i is in
    between_test first_instant last_instant i (omega (arith, ints, bounds)) bounds.1

pub before_held : (m : Meaning) (starred : Bool) (t : ClockTable) (i : ℤ) → Starts (cron_job m starred) (table_zone t) i → is_table_second (i -ℤ pos 1) ≡ true
before_held m starred t i is =
    let bounds = start_bounds m starred t i is in
    between_test first_instant last_instant (i -ℤ pos 1) bounds.0 (omega (arith, ints, bounds))

-- and so is the second from which a search goes on past a start that it found
pub onward_held : (d : Direction) (job : CrontabJob) (t : TableTime) (found : Option Start)
    → MatchOption found (NoStartLeft d (cron_job_of job) (table_moment t)) (IsStartFound d (cron_job_of job) (table_moment t))
    → IfSome found (λ s. is_table_second (onward_from d s.second) ≡ true)
onward_held d job t None h = tt
onward_held Forward job t (Some s) h = h.held
onward_held Backward job t (Some s) h = before_held (job_of job.cron) job.is_starred t.table.now s.second (s.count, h.is.some, h.is.times)
