-- The steps by which a table is checked, change by change, and searched.
-- Private contracts alone cite these definitions.
use Rattle.std.specs.Prelude.{◌≡◌, ℕ, zero, suc, ◌+◌, ◌≤◌, IsTrue, ℤ, pos, ◌+ℤ◌, ◌-ℤ◌, ◌<ℤ◌, ◌≤ℤ◌, List, [], ◌∷◌, slice_index_or}
use Rattle.croner_base.specs.declared.time.table.check.Tally.{Tally}
use Rattle.croner_base.specs.declared.time.table.ClockTable.{ClockTable}
use Rattle.croner_base.specs.declared.time.table.TableTime.{TableTime}
use Rattle.croner_base.specs.declared.time.value.Resolution.{Resolution}
use Rattle.croner_base.specs.declared.time.value.Resolution.TheVariants.{Single, Ambiguous, Gap}
use Rattle.croner_base.specs.Limits.{apart_limit, most_changes, most_gap_seconds}
use Rattle.croner_base.specs.Table.{first_instant, last_instant, offset_limit, is_offset, is_step, met_at, gap_at}

-- what is known of a table after some of its changes
pub record Known : Type 0 where
  -- the offset in force then
  pub offset : ℤ
  -- the least instant at which the next change may lie: at first the first instant
  pub earliest : ℤ
  -- how many of the changes are met, and how many seconds the clock is moved forward at these
  pub met : ℕ
  pub gap_seconds : ℕ

-- what a tally tells
abbrev pub known_by : Tally → Known
known_by t = record { offset = t.offset; earliest = t.earliest; met = t.met; gap_seconds = t.gap_seconds }

-- what is known after one change more
abbrev pub known_after : Known → ℤ × ℤ → Known
known_after k c = record {
  offset = c.1;
  earliest = c.0 +ℤ pos apart_limit +ℤ pos 1;
  met = k.met + met_at k.offset c;
  gap_seconds = k.gap_seconds + gap_at k.offset c;
}

-- a change can be the next one
pub record IsNextChange (k : Known) (c : ℤ × ℤ) : Type 0 where
  pub late_enough : k.earliest ≤ℤ c.0
  pub early_enough : c.0 ≤ℤ last_instant
  pub offset_in : IsTrue (is_offset c.1)
  pub step : IsTrue (is_step k.offset c.1)
  pub few : k.met + met_at k.offset c ≤ most_changes
  pub few_seconds : k.gap_seconds + gap_at k.offset c ≤ most_gap_seconds

-- the offset after the first n changes
abbrev pub offset_past : ℤ → List (ℤ × ℤ) → ℕ → ℤ
offset_past offset cs zero = offset
offset_past offset cs (suc n) = (slice_index_or cs n (pos 0, pos 0)).1

-- the first n changes lie at or before an instant, and the next one after it: of ascending changes, all that do
abbrev pub IsCountUntil : List (ℤ × ℤ) → ℤ → ℕ → Type 0
IsCountUntil [] i n = n ≡ 0
IsCountUntil (c ∷ cs) i zero = i <ℤ c.0
IsCountUntil (c ∷ cs) i (suc n) = (c.0 ≤ℤ i) × IsCountUntil cs i n

-- what the clock of a table can read: the seconds of its instants, and those at most an offset past them
abbrev pub first_reading : ℤ
first_reading = first_instant -ℤ pos offset_limit

abbrev pub last_reading : ℤ
last_reading = last_instant +ℤ pos offset_limit

-- the wall seconds whose instants are all in the range
abbrev pub first_resolved : ℤ
first_resolved = first_instant +ℤ pos offset_limit

abbrev pub last_resolved : ℤ
last_resolved = last_instant -ℤ pos offset_limit

-- the instants of a resolution
abbrev pub seconds_of : Resolution TableTime → Resolution ℤ
seconds_of (Single t) = Single t.second
seconds_of (Ambiguous a b) = Ambiguous a.second b.second
seconds_of Gap = Gap

-- its seconds are on the clock of the table
abbrev pub AreOn : ClockTable → Resolution TableTime → Type 0
AreOn table (Single t) = t.table.now ≡ table
AreOn table (Ambiguous a b) = (a.table.now ≡ table) × (b.table.now ≡ table)
AreOn table Gap = Unit {0}
