-- What a time on a zone's clock names.
use Rattle.croner_base.specs.TableZone.{table_moment}
use Rattle.croner_base.specs.Zone.{Moment}
use Rattle.croner_zoned.specs.declared.time.ZoneTime.{ZoneTime}

-- its second, on the clock of the table
abbrev pub zone_moment : ZoneTime → Moment
zone_moment t = table_moment t.time
