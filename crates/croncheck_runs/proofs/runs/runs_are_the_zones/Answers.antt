use Rattle.std.proofs.Common.{[], subst, sym}
use Rattle.croner_base.specs.declared.time.table.ClockTable.{ClockTable}
use Rattle.croner_base.specs.TableZone.{table_zone, table_moment}
use Rattle.croner_base.specs.ZonedZone.{zoned_zone}
use Rattle.croner.specs.iterator.Listing.{job_at}
use Rattle.croner.specs.laws.Zones.{IsOnClockOf, in_zone}
use Rattle.croncheck_runs.specs.Runs.{starts}
use Rattle.croncheck_runs.proofs.OwnRuns.{well_after, well_after_le, counts_after, items_well, with_none, no_later}
use Rattle.croncheck_runs.proofs.runs.runs_are_the_zones.Goals as goal

pub returns-clause-begins : goal.returns-clause-begins
returns-clause-begins c = λ zone first last m start on items begins within.
    let on' = subst (λ (t : ClockTable). IsOnClockOf zone first last (table_zone t) (table_moment start)) (sym c.table.ensures) on in
    c.listing_of_a_window.ensures.begins zone first last (starts m start) on' items [] (with_none m start items begins)
    (items_well zone first last m start items on.well_in begins within)

pub returns-clause-until : goal.returns-clause-until
returns-clause-until c = λ zone first last m start on items until by gave i left le.
    let on' = subst (λ (t : ClockTable). IsOnClockOf zone first last (table_zone t) (table_moment start)) (sym c.table.ensures) on in
    let well = well_after_le zone first last start.second i until on.well_in (counts_after (job_at (in_zone (zoned_zone zone) (starts m start))) start.second i left) le by in
    gave i ((c.listing_of_a_window.ensures.left zone first last (starts m start) on' i well).1 left) le

pub returns-clause-all : goal.returns-clause-all
returns-clause-all c = λ zone first last m start on items i within gave left inside.
    let on' = subst (λ (t : ClockTable). IsOnClockOf zone first last (table_zone t) (table_moment start)) (sym c.table.ensures) on in
    let well = well_after zone first last start.second i on.well_in (counts_after (job_at (in_zone (zoned_zone zone) (starts m start))) start.second i left) within in
    c.listing_of_a_window.ensures.all zone first last (starts m start) on' items i gave well left inside

pub returns-clause-within : goal.returns-clause-within
returns-clause-within c = λ m start i left. no_later m start i left
