-- What the values of a time of one's own name.
use Rattle.croner.specs.TableZone.{table_moment}
use Rattle.croner.specs.Zone.{Moment}
use Rattle.croner_examples.specs.declared.own_time.OfficeTime.{OfficeTime}

-- the moment that its second names, on the clock of the table
abbrev pub office_moment : OfficeTime → Moment
office_moment t = table_moment t.time
