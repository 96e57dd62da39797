-- The clocks of the two backends are calm, as those of their tables.
use Rattle.std.proofs.Common.{refl}
use Rattle.croner_base.specs.declared.time.table.ClockTable.{ClockTable}
use Rattle.croner_base.specs.Calm.{IsCalm, IsStart}
use Rattle.croner_base.specs.TableZone.{table_zone}
use Rattle.croner_base.specs.Zone.{reading}
use Rattle.croner_base.proofs.tables.TableCalm.{clock_calm, table_holds}
use Rattle.croner.specs.search.Premises.{IsSearchable, StartsCalm}
use Rattle.croner_backends.specs.declared.boxed.BoxedTime.{BoxedTime}
use Rattle.croner_backends.specs.declared.narrow.NarrowTime.{NarrowTime}
use Rattle.croner_backends.specs.BoxedMoment.{boxed_moment}
use Rattle.croner_backends.specs.NarrowMoment.{narrow_moment}
use Rattle.croner_backends.proofs.NarrowCalm.{narrow_calm}

pub table_calm : (table : ClockTable) → IsCalm (table_zone table)
table_calm table = clock_calm table.first_offset table.changes.items table.calm

pub boxed_starts_calm : (b : BoxedTime) → StartsCalm (boxed_moment b)
boxed_starts_calm b = record { calm = table_calm b.time.value.table.now; whole = refl }

pub narrow_starts_calm : (t : NarrowTime) → StartsCalm (narrow_moment t)
narrow_starts_calm t =
    record { calm = narrow_calm (table_zone t.time.table.now) t.low t.high (table_calm t.time.table.now); whole = refl }

-- a table holds what a search needs
pub boxed_searchable : (b : BoxedTime) → IsStart (reading (boxed_moment b)) → IsSearchable (boxed_moment b)
boxed_searchable b h = record { starts = boxed_starts_calm b; held = table_holds b.time.value h.0 h.1 }
