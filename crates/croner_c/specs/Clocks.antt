-- The clock that a caller passes: its window, and the zone that its changes make. Source: bindings/c/croner.h.
use Rattle.std.specs.Prelude.{◌≡◌, ◌==◌, ◌&&◌, Bool, true, false, int_le, ℕ, ℤ, pos, neg_ℤ, List, map, Result, Ok, Err}
use Rattle.std.specs.Ordering.{int_eq}
use Rattle.croner_base.specs.Table.{is_calm_table}
use Rattle.croner_base.specs.TableZone.{HasParts, clock}
use Rattle.croner_base.specs.Zone.{Zone}
use Rattle.croner_base.specs.declared.time.table.ClockTable.{ClockTable}
use Rattle.croner_base.specs.declared.time.table.TableTime.{TableTime}
use Rattle.croner_c.specs.declared.clock.Change.{Change}
use Rattle.croner_c.specs.declared.clock.Clock.{Clock}
use Rattle.croner_c.specs.declared.status.Reason.{Reason}
use Rattle.croner_c.specs.declared.status.Reason.TheVariants as reasons

-- the bytes of a clock
abbrev pub clock_size : ℕ
clock_size = 48

-- -9996-01-01T00:00:00 UTC
abbrev pub first_second : ℤ
first_second = neg_ℤ (pos 377_610_508_800)

-- 9996-12-31T23:59:59 UTC
abbrev pub last_second : ℤ
last_second = pos 253_307_692_799

-- the first and the last second of a window
abbrev pub is_window : ℤ → ℤ → Bool
is_window first last = int_le first_second first && int_le first last && int_le last last_second

-- a clock that a call accepts: of this size, without reserved bits, and with a window
abbrev pub is_accepted : Clock → Bool
is_accepted c = c.size == clock_size && int_eq c.reserved (pos 0) && is_window c.first c.last

-- a second of the window
abbrev pub has : Clock → ℤ → Bool
has c i = int_le c.first i && int_le i c.last

-- a change as a table has it
abbrev pub row_of : Change → ℤ × ℤ
row_of change = (change.second, change.ahead)

-- the changes as a table has them
abbrev pub rows_of : List Change → List (ℤ × ℤ)
rows_of changes = map row_of changes

-- a calm clock
abbrev pub is_calm : Clock → Bool
is_calm c = is_calm_table c.ahead (rows_of c.changes.now)

-- the zone of a clock: its offset before the first change, and its changes
abbrev pub zone_of : Clock → Zone
zone_of c = clock c.ahead (rows_of c.changes.now)

-- the zone of a clock that is calm, for a second of its window; or why there is none
abbrev pub IsZoneAt : Clock → ℤ → Result Zone Reason → Type 0
IsZoneAt c i (Ok z) = (z ≡ zone_of c) × (is_calm c ≡ true) × (has c i ≡ true)
IsZoneAt c i (Err reasons.NotCalm) = is_calm c ≡ false
IsZoneAt c i (Err reasons.Outside) = (is_calm c ≡ true) × (has c i ≡ false)
IsZoneAt c i (Err reasons.OutOfMemory) = Unit {0}
IsZoneAt c i (Err other) = ⊥

-- ---- of private contracts alone

-- the table of a calm clock
pub record IsTableOf (c : Clock) (table : ClockTable) : Type 0 where
  pub calm : is_calm c ≡ true
  pub parts : HasParts c.ahead (rows_of c.changes.now) table

-- the table of a clock, or why there is none
abbrev pub IsTable : Clock → Result ClockTable Reason → Type 0
IsTable c (Ok table) = IsTableOf c table
IsTable c (Err reasons.NotCalm) = is_calm c ≡ false
IsTable c (Err reasons.OutOfMemory) = Unit {0}
IsTable c (Err other) = ⊥

-- a second of the window on the table of an accepted clock
pub record IsTimeOn (c : Clock) (t : TableTime) : Type 0 where
  pub accepted : is_accepted c ≡ true
  pub table : IsTableOf c t.table.now
  pub within : has c t.second ≡ true
