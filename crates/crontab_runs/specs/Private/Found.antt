-- What the search in a stretch finds.
-- Private contracts alone cite these definitions.
use Rattle.std.specs.Prelude.{◌≡◌, ◌<◌, ℤ, ◌+ℤ◌}
use Rattle.croner_base.specs.TableZone.{table_zone}
use Rattle.croner_base.specs.Zone.{Zone}
use Rattle.croner_pattern.specs.Directions.{Reaches}
use Rattle.croner.specs.search.Limit.{IsWithin}
use Rattle.croner.specs.Views.{job_of}
use Rattle.crontab_runs.specs.Private.Nearest.{IsNearestNamed}
use Rattle.crontab_runs.specs.declared.job.Start.{Start}
use Rattle.crontab_runs.specs.declared.minutes.NearestMinute.{NearestMinute}
use Rattle.crontab_runs.specs.declared.stretch_search.StretchSearch.{StretchSearch}
use Rattle.crontab_runs.specs.Private.Known.{IsKnown}
use Rattle.crontab_runs.specs.Searches.{IsStartOf}
use Rattle.crontab_runs.specs.Starts.{CronJob, StartsTimes, Starts}
use Rattle.crontab_runs.specs.Views.{cron_job_of}
use Rattle.crontab_runs.specs.Private.Parts.{least_minute, minute_from, IsAfterBegin, IsIn, NoStart, IsNearestStart}

-- the job and the zone of a search
abbrev pub job_in : StretchSearch → CronJob
job_in p = cron_job_of p.job.now

abbrev pub zone_in : StretchSearch → Zone
zone_in p = table_zone p.stretch.table.now

abbrev pub least_in : StretchSearch → ℤ
least_in p = least_minute p.job.now.is_starred p.stretch.begin p.stretch.offset p.stretch.before

-- its instants after the first second of the stretch, and with it
abbrev pub AfterBegin : StretchSearch → ℤ → Type 0
AfterBegin p = IsAfterBegin p.direction p.stretch.begin p.stretch.end p.from

abbrev pub Within : StretchSearch → ℤ → Type 0
Within p = IsIn p.direction p.stretch.begin p.stretch.end p.from

-- of some instants none is a start, of those that lie in the searched years
abbrev pub NoneOf : StretchSearch → (ℤ → Type 0) → Type 0
NoneOf p among = NoStart p.direction (job_in p) (zone_in p) among

-- the nearest start of some instants
abbrev pub IsFoundOf : StretchSearch → (ℤ → Type 0) → Start → Type 0
IsFoundOf p among s = IsNearestStart p.direction (job_in p) (zone_in p) among s.second × IsStartOf (job_in p) (zone_in p) s

-- at the first second of the stretch, if the search hasn't passed it
abbrev pub NoneAtBegin : StretchSearch → Type 0
NoneAtBegin p = Reaches p.direction p.from p.stretch.begin → ¬ (Starts (job_in p) (zone_in p) p.stretch.begin)

pub record IsFoundAtBegin (p : StretchSearch) (s : Start) : Type 0 where
  pub at : s.second ≡ p.stretch.begin
  pub on : Reaches p.direction p.from p.stretch.begin
  pub some : 0 < s.count
  pub times : StartsTimes (job_in p) (zone_in p) p.stretch.begin s.count

-- the same where the first second lies in the searched years
abbrev pub NoneAtBeginWithin : StretchSearch → Type 0
NoneAtBeginWithin p = IsWithin p.direction (p.stretch.begin +ℤ p.stretch.offset) → NoneAtBegin p

abbrev pub IsFoundAtBeginWithin : StretchSearch → Start → Type 0
IsFoundAtBeginWithin p s = IsWithin p.direction (p.stretch.begin +ℤ p.stretch.offset) × IsFoundAtBegin p s

-- what is known is so of the job, in the direction of the search
abbrev pub KnowsOf : StretchSearch → NearestMinute → Type 0
KnowsOf p known = IsKnown (job_of p.job.now.cron) known × (known.direction ≡ p.direction)

-- the nearest minute that the job names, from the one from which it is sought
abbrev pub IsNearestFrom : StretchSearch → ℤ → Type 0
IsNearestFrom p minute = IsNearestNamed p.direction (job_of p.job.now.cron) (minute_from p.direction (p.from +ℤ p.stretch.offset) (least_in p)) minute
