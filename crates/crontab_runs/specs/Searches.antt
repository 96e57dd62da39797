-- What a search for a start answers. Source: this crate's documentation.
use Rattle.std.specs.Prelude.{◌≡◌, ◌<◌, true}
use Rattle.croner_base.specs.declared.time.Direction.{Direction}
use Rattle.croner_base.specs.Table.{is_table_second}
use Rattle.croner_base.specs.Zone.{Zone, Moment}
use Rattle.croner.specs.Recurring.{CountsFrom}
use Rattle.croner.specs.search.Limit.{NoneInSpanWhere}
use Rattle.croner.specs.search.Runs.{NearestWhere}
use Rattle.crontab_runs.specs.declared.job.Start.{Start}
use Rattle.crontab_runs.specs.Starts.{CronJob, StartsTimes, Starts}

-- cron starts a job at the second of a start, so many times as it counts, and once or more
pub record IsStartOf (job : CronJob) (z : Zone) (s : Start) : Type 0 where
  pub some : 0 < s.count
  pub times : StartsTimes job z s.second s.count

-- the start that is found is the nearest that counts, and an instant of a table
pub record IsStartFound (direction : Direction) (job : CronJob) (time : Moment) (s : Start) : Type 0 where
  pub nearest : NearestWhere direction (CountsFrom direction (Starts job time.zone) time.instant) s.second
  pub is : IsStartOf job time.zone s
  pub held : is_table_second s.second ≡ true

-- none that counts is left in the searched years
abbrev pub NoStartLeft : Direction → CronJob → Moment → Type 0
NoStartLeft direction job time = NoneInSpanWhere direction time.zone.reads (CountsFrom direction (Starts job time.zone) time.instant)
