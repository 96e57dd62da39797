-- The starts of one job in a span. Source: this crate's documentation.
use Rattle.std.specs.Prelude.{◌≡◌, ◌<◌, ◌≤◌, ◌+◌, ◌⊎◌, ℕ, ℤ, pos, ◌-ℤ◌, ◌<ℤ◌, ◌≤ℤ◌, List, length, Some}
use Rattle.std.specs.List.{All, AllPairs, Contains}
use Rattle.croner_base.specs.declared.errors.CronError.{CronError}
use Rattle.croner_base.specs.declared.errors.CronError.TheVariants as errors
use Rattle.croner_base.specs.declared.time.Direction.TheVariants.{Forward}
use Rattle.croner_base.specs.Calm.{IsStart}
use Rattle.croner_base.specs.Zone.{Zone}
use Rattle.croner.specs.search.Limit.{InSpan}
use Rattle.croner.specs.search.PatternJob.{pattern_job}
use Rattle.croner.specs.search.Runs.{Run}
use Rattle.croner.specs.Views.{job_of}
use Rattle.crontab_runs.specs.Starts.{StartsTimes}
use Rattle.crontab_runs.specs.Views.{cron_job_of}
use Rattle.cronplan_jobs.specs.declared.listing.Schedule.{Schedule}
use Rattle.cronplan_jobs.specs.declared.listing.Schedule.TheVariants as schedules
use Rattle.cronplan.specs.declared.span.Span.{Span}
use Rattle.cronplan.specs.declared.start.JobStart.{JobStart}
use Rattle.cronplan.specs.Starts.{seconds_of, second_at, most_starts}

-- on a zone's clock the job is started so many times at i: a crontab's as cron starts it, a pattern once at each run
abbrev pub StartsAt : Schedule → Zone → ℤ → ℕ → Type 0
StartsAt (schedules.Crontab job) z i n = StartsTimes (cron_job_of job) z i n
StartsAt (schedules.Pattern cron) z i n = Run (pattern_job (job_of cron) z) i × (n ≡ 1)

-- a start of the job at this place in the span: its second, how many times it is started there, and what the clock shows then
pub record IsStartIn (schedule : Schedule) (z : Zone) (span : Span) (place : ℕ) (s : JobStart) : Type 0 where
  pub some : 0 < s.count
  pub times : StartsAt schedule z s.second s.count
  pub job : s.job ≡ place
  pub wall : s.wall ≡ z.reads s.second
  pub first : span.first ≤ℤ s.second
  pub before : s.second <ℤ span.end

-- the starts of the job in the span: they rise, and none is left out before an end, up to the years in which none is searched. That end is the
-- one of the span, or where there are more than a plan keeps, the second of the first start too many
pub record ListsJob (schedule : Schedule) (z : Zone) (span : Span) (place : ℕ) (starts : List JobStart) (end : ℤ) : Type 0 where
  pub each : All (IsStartIn schedule z span place) starts
  pub once : AllPairs (λ i j. i <ℤ j) (seconds_of starts)
  pub complete : (i : ℤ) (n : ℕ) → span.first ≤ℤ i → i <ℤ end → 0 < n → StartsAt schedule z i n → InSpan Forward z.reads i → Contains (seconds_of starts) i
  pub from : span.first ≤ℤ end
  pub within : end ≤ℤ span.end
  pub cut : (end ≡ span.end) ⊎ (second_at starts most_starts ≡ Some end)
  pub most : length starts ≤ most_starts + 1

-- the clock shows a year from -9997 to 9997 at the second before the span: it then refuses no date and no second of a search
abbrev pub IsServed : Zone → Span → Type 0
IsServed z span = IsStart (z.reads (span.first -ℤ pos 1))

-- why a job isn't listed: memory is lacking, or the clock refuses a date or a second of its search
abbrev pub IsNotListed : CronError → Type 0
IsNotListed e = (e ≡ errors.OutOfMemory) ⊎ (e ≡ errors.InvalidDate) ⊎ (e ≡ errors.InvalidTime)
