-- What the values of the backend that holds little name.
use Rattle.std.specs.Prelude.{ℤ}
use Rattle.croner_base.specs.declared.time.table.TableTime.{TableTime}
use Rattle.croner_base.specs.TableZone.{table_zone}
use Rattle.croner_base.specs.Zone.{Moment}
use Rattle.croner_backends.specs.declared.narrow.NarrowTime.{NarrowTime}
use Rattle.croner_backends.specs.Narrow.{narrow}

-- the second of a table, in the table's zone between two instants
abbrev pub narrow_second : TableTime → ℤ → ℤ → Moment
narrow_second time low high = record {
  zone = narrow (table_zone time.table.now) low high;
  instant = time.second;
  fraction = 0;
}

-- the moment that a value names
abbrev pub narrow_moment : NarrowTime → Moment
narrow_moment t = narrow_second t.time t.low t.high
