-- A table's clock is near UTC, so at a watched change it shows a year from 1 to 4999.
use Rattle.std.proofs.Common.{◌≡◌, true, refl, arith, ℤ, pos, neg_ℤ, ◌+ℤ◌, ◌-ℤ◌, ◌≤ℤ◌, w64, FitsSigned}
use Rattle.std.proofs.lemmas.Int.{ints}
use Rattle.croner_base.specs.declared.time.table.ClockTable.{ClockTable}
use Rattle.croner_base.specs.declared.time.table.TableTime.{TableTime}
use Rattle.croner_base.specs.Table.{offset_at, offset_limit, is_table_second}
use Rattle.croner_base.specs.TableZone.{clock, table_zone, table_moment}
use Rattle.croner_base.specs.Zone.{at_instant}
use Rattle.croner_base.proofs.tables.TableOffsets.{calm_offset}
use Rattle.croner_base.proofs.tables.TableTests.{instant_test}
use Rattle.croncheck_changes.specs.Changes.{IsWatched}
use Rattle.croncheck_changes.specs.declared.changes.Change.{Change}
use Rattle.croncheck_changes.specs.Private.Met.{IsInYears, IsToldOf}

near_plain : (i x : ℤ) → (neg_ℤ (pos offset_limit) ≤ℤ x) × (x ≤ℤ pos offset_limit) → ((i -ℤ pos 86_400) ≤ℤ (i +ℤ x)) × ((i +ℤ x) ≤ℤ (i +ℤ pos 86_400))
near_plain i x h = (omega (arith, ints, h), omega (arith, ints, h))

-- a clock is at most a day away from UTC
pub near_utc : (t : ClockTable) (i : ℤ) → ((i -ℤ pos 86_400) ≤ℤ (table_zone t).reads i) × ((table_zone t).reads i ≤ℤ (i +ℤ pos 86_400))
unfolding clock
near_utc t i = near_plain i (offset_at t.first_offset t.changes.items i) (calm_offset t.first_offset t.changes.items i t.calm)

pub in_years : (t : TableTime) (c : Change) → IsToldOf t c → IsInYears c
in_years t c told =
    let here = near_utc t.table.now c.instant in
    let before = near_utc t.table.now (c.instant -ℤ pos 1) in
    let w = told.1 in
    record {
      before_from = omega (arith, ints, told.0.before_is, before.0, w.from);
      before_to = omega (arith, ints, told.0.before_is, before.1, w.before);
      after_from = omega (arith, ints, told.0.after_is, here.0, w.from);
      after_to = omega (arith, ints, told.0.after_is, here.1, w.before);
    }

-- they fit; the first part of the conclusion shows `grind` what to match
pub fits_in_years : (c : Change) → IsInYears c → IsInYears c × FitsSigned w64 c.before × FitsSigned w64 c.after
fits_in_years c y = (y, omega (arith, ints, y.before_from, y.before_to), omega (arith, ints, y.after_from, y.after_to))

-- ---- the second before a watched change

pub held_before : (start i k : ℤ) → IsWatched start i → k ≡ i -ℤ pos 1 → is_table_second k ≡ true
held_before start i k w at = instant_test k (omega (arith, ints, at, w.from)) (omega (arith, ints, at, w.before))

-- a second on the same clock
pub moment_at : (t x : TableTime) (i : ℤ) → x.table.now ≡ t.table.now → x.second ≡ i → table_moment x ≡ at_instant (table_moment t).zone i
moment_at t x i same at = rw (same, at) refl
