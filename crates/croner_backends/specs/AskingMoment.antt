-- What the values of the backend that asks for memory name.
use Rattle.croner_base.specs.TableZone.{table_moment}
use Rattle.croner_base.specs.Zone.{Moment}
use Rattle.croner_backends.specs.declared.asking.AskingTime.{AskingTime}

-- the moment that the second of the table names
abbrev pub asking_moment : AskingTime → Moment
asking_moment t = table_moment t.time
