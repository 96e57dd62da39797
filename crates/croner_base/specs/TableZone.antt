-- The clock of a table as a zone.
use Rattle.std.specs.Prelude.{◌≡◌, ℤ, pos, ◌+ℤ◌, ◌-ℤ◌, int_lt, if◌then◌else◌, Some, None, List, [], ◌∷◌}
use Rattle.croner_base.specs.declared.time.table.ClockTable.{ClockTable}
use Rattle.croner_base.specs.declared.time.table.TableTime.{TableTime}
use Rattle.croner_base.specs.declared.time.value.Resolution.{Resolution}
use Rattle.croner_base.specs.declared.time.value.Resolution.TheVariants.{Single, Ambiguous, Gap}
use Rattle.croner_base.specs.Civil.{wall_second}
use Rattle.croner_base.specs.Table.{offset_at, offset_limit, is_table_second}
use Rattle.croner_base.specs.Zone.{Zone, Moment}
use Rattle.croner_base.specs.ZonedZone.{is_near_year}

-- a table has this first offset and these changes
pub record HasParts (offset : ℤ) (cs : List (ℤ × ℤ)) (table : ClockTable) : Type 0 where
  pub first_is : table.first_offset ≡ offset
  pub changes_are : table.changes.items ≡ cs

-- what the clock shows at an instant: the instant and the offset in force
abbrev pub clock_reads : ℤ → List (ℤ × ℤ) → ℤ → ℤ
clock_reads offset cs i = i +ℤ offset_at offset cs i

-- of two instants, those that read a wall second: the one by the offset before a change if it lies before the change,
-- and the one by the offset after it if it doesn't
abbrev pub instants_around : ℤ → ℤ → ℤ → Resolution ℤ
instants_around change by_old by_new =
    if int_lt by_old change then (if int_lt by_new change then Single by_old else Ambiguous by_old by_new)
    else (if int_lt by_new change then Gap else Single by_new)

-- the instants that read a wall second, of a calm table. Offsets are at most a day, so a change that lies more than a
-- day before the second is past at all of them. Of the others the first decides: the next one lies more than two days
-- after it, so at none of them has it come. Where all are past, the last offset decides. A lemma says that it is
-- exactly these
abbrev pub instants_of : ℤ → List (ℤ × ℤ) → ℤ → Resolution ℤ
instants_of offset [] w = Single (w -ℤ offset)
instants_of offset (c ∷ cs) w =
    if int_lt (c.0 +ℤ pos offset_limit) w then instants_of c.1 cs w
    else instants_around c.0 (w -ℤ offset) (w -ℤ c.1)

-- the zone of a first offset and changes: it holds the instants of the UTC years -9999 to 9999, and the wall seconds
-- of the years -9998 to 9998
unfoldable pub clock : ℤ → List (ℤ × ℤ) → Zone
clock offset cs = record {
  reads = clock_reads offset cs;
  resolves = λ c. if is_near_year c.date.year then Some (instants_of offset cs (wall_second c)) else None;
  holds = is_table_second;
}

-- the zone of a table
abbrev pub table_zone : ClockTable → Zone
table_zone table = clock table.first_offset table.changes.items

-- the moment that a second on the clock of a table names
abbrev pub table_moment : TableTime → Moment
table_moment t = record {
  zone = table_zone t.table.now;
  instant = t.second;
  fraction = 0;
}
