use Rattle.croner.proofs.zone.Windows.{same_left, begins_well, span_well}
use Rattle.croner_base.specs.ZonedZone.{zoned_zone}
use Rattle.croner.specs.iterator.Listing.{IsLeft}
use Rattle.croner.specs.laws.Zones.{in_zone}
use Rattle.croner.proofs.laws.zones.listing_of_a_window.Goals as goal

pub returns-clause-left : goal.returns-clause-left
returns-clause-left c = λ zone first last s h i hi.
    let same = same_left zone first last c.args.table.now s h in
    (same.to i hi, same.back i hi)

pub returns-clause-begins : goal.returns-clause-begins
returns-clause-begins c = λ zone first last s h items more n well.
    begins_well zone first last s.direction s.position.instant (IsLeft s) (IsLeft (in_zone (zoned_zone zone) s)) items more (same_left zone first last c.args.table.now s h) n well

pub returns-clause-passed : goal.returns-clause-passed
returns-clause-passed c = λ zone first last s h items i item n hi left has reaches.
    n.complete i item ((same_left zone first last c.args.table.now s h).back i hi left) has reaches

pub returns-clause-all : goal.returns-clause-all
returns-clause-all c = λ zone first last s h items i all hi left inside.
    all i ((same_left zone first last c.args.table.now s h).back i hi left) (span_well zone first last c.args.table.now s.position s.direction i h hi inside)
