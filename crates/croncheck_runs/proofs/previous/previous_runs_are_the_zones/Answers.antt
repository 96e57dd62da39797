use Rattle.std.proofs.Common.{[], subst, sym}
use Rattle.croner_base.specs.declared.time.table.ClockTable.{ClockTable}
use Rattle.croner_base.specs.TableZone.{table_zone, table_moment}
use Rattle.croner_base.specs.ZonedZone.{zoned_zone}
use Rattle.croner.specs.iterator.Listing.{job_at}
use Rattle.croner.specs.laws.Zones.{IsOnClockOf, in_zone}
use Rattle.croncheck_runs.specs.Previous.{ends_at}
use Rattle.croncheck_runs.proofs.OwnRunsBefore.{well_here, well_before, counts_up_to, items_well, with_none}
use Rattle.croncheck_runs.proofs.previous.previous_runs_are_the_zones.Goals as goal

pub returns-clause-begins : goal.returns-clause-begins
returns-clause-begins c = λ zone first last m start on items begins followed.
    let on' = subst (λ (t : ClockTable). IsOnClockOf zone first last (table_zone t) (table_moment start)) (sym c.table.ensures) on in
    c.listing_of_a_window.ensures.begins zone first last (ends_at m start) on' items [] (with_none (ends_at m start) items begins)
    (items_well zone first last m start items on.well_in begins followed)

pub returns-clause-from : goal.returns-clause-from
returns-clause-from c = λ zone first last m start on items from by gave i left le.
    let on' = subst (λ (t : ClockTable). IsOnClockOf zone first last (table_zone t) (table_moment start)) (sym c.table.ensures) on in
    let well = well_before zone first last start.second from i on.well_in (counts_up_to (job_at (in_zone (zoned_zone zone) (ends_at m start))) start.second i left) by le in
    gave i ((c.listing_of_a_window.ensures.left zone first last (ends_at m start) on' i well).1 left) le

pub returns-clause-all : goal.returns-clause-all
returns-clause-all c = λ zone first last m start on items i followed gave left inside.
    let on' = subst (λ (t : ClockTable). IsOnClockOf zone first last (table_zone t) (table_moment start)) (sym c.table.ensures) on in
    let well = well_here zone first last start.second i on.well_in (counts_up_to (job_at (in_zone (zoned_zone zone) (ends_at m start))) start.second i left) followed in
    c.listing_of_a_window.ensures.all zone first last (ends_at m start) on' items i gave well left inside
