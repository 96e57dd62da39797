-- What becomes of a start that a search found, as a time of the clock.
use Rattle.std.specs.Prelude.{◌≡◌, false, Option, Some, None}
use Rattle.croner_base.specs.declared.errors.CronError.{CronError}
use Rattle.croner_base.specs.declared.errors.CronError.TheVariants.{InvalidTime, TimeSearchLimitExceeded}
use Rattle.croner_base.specs.declared.time.table.TableTime.{TableTime}
use Rattle.croner_base.specs.TableZone.{table_moment}
use Rattle.croner_base.specs.Zone.{Zone, at_instant}
use Rattle.crontab_runs.specs.declared.job.Start.{Start}

-- the time at the start's second
abbrev pub IsTimeOf : Zone → Option Start → TableTime → Type 0
IsTimeOf z (Some s) t = table_moment t ≡ at_instant z s.second
IsTimeOf z None t = ⊥

-- why there is no time: no start was found, or the clock doesn't hold its second
abbrev pub HasNoTime : Zone → Option Start → CronError → Type 0
HasNoTime z (Some s) e = (e ≡ InvalidTime) × (z.holds s.second ≡ false)
HasNoTime z None e = e ≡ TimeSearchLimitExceeded
