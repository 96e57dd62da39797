-- The starts of a job over a clock's table are those in the clock's zone.
use Rattle.std.proofs.Common.{◌≡◌, ◌∙◌, ap, subst, ℕ, ℤ, List, map, Option, Some}
use Rattle.croner_base.specs.TableZone.{table_moment}
use Rattle.croner_base.specs.Zone.{Zone, at_instant}
use Rattle.croner_base.specs.declared.time.table.TableTime.{TableTime}
use Rattle.crontab_runs.specs.Listing.{ListsStarts}
use Rattle.crontab_runs.specs.Views.{cron_job_of}
use Rattle.crontab_runs.specs.declared.job.CrontabJob.{CrontabJob}
use Rattle.crontab_runs.specs.declared.job.Start.{Start}
use Rattle.crontab_runs.specs.declared.listing.StartsEnd.{StartsEnd}
use Rattle.croner_c.specs.Clocks.{zone_of, IsTimeOn}
use Rattle.croner_c.specs.Listings.{bound_of}
use Rattle.croner_c.specs.Starts.{starts_of, end_of, ListsIn}
use Rattle.croner_c.specs.declared.clock.Clock.{Clock}
use Rattle.croner_c.specs.declared.starts.Starts.{Starts}
use Rattle.croner_c.specs.declared.status.Reason.{Reason}
use Rattle.croner_c.proofs.Times.{zone_is}

-- with the starts and the end that the call gives
pub started : (j : CrontabJob) (c : Clock) (t : TableTime) (until : ℤ) (room : ℕ) (items : List Start) (end : StartsEnd) (bound : ℤ) (slice : List Start) (starts : List Starts) (why : Option Reason)
    → IsTimeOn c t → bound ≡ bound_of until c.last → ListsStarts (cron_job_of j) (table_moment t) (Some bound) room items end → slice ≡ items → starts ≡ map starts_of slice
    → why ≡ end_of until c.last end → ListsIn j c t.second until room (zone_of c) (starts, why)
started j c t until room items end bound slice starts why on bound_is lists same starts_are why_is =
    let by_bound = subst (λ (b : ℤ). ListsStarts (cron_job_of j) (table_moment t) (Some b) room items end) bound_is lists in
    let in_zone = subst (λ (z : Zone). ListsStarts (cron_job_of j) (at_instant z t.second) (Some (bound_of until c.last)) room items end) (zone_is c t.table.now on.table) by_bound in
    record { starts = items; end = end; lists = in_zone; starts_are = starts_are ∙ ap (λ (ss : List Start). map starts_of ss) same; end_is = why_is }
