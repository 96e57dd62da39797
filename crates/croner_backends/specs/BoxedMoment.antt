-- What the values of the backend that takes memory name.
use Rattle.croner_base.specs.TableZone.{table_moment}
use Rattle.croner_base.specs.Zone.{Moment}
use Rattle.croner_backends.specs.declared.boxed.BoxedTime.{BoxedTime}

-- the moment that the second of the table names
abbrev pub boxed_moment : BoxedTime → Moment
boxed_moment b = table_moment b.time.value
