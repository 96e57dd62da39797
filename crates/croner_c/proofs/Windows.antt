-- The window of a clock, by its numbers.
use Rattle.std.proofs.Common.{◌≡◌, ◌&&◌, ◌==◌, true, ℤ, pos, ◌≤ℤ◌, int_le}
use Rattle.std.specs.Ordering.{int_eq}
use Rattle.croner_base.proofs.tables.TableTests.{both_parts, le_of}
use Rattle.croner_c.specs.Clocks.{clock_size, is_window, is_accepted, has, first_second, last_second}
use Rattle.croner_c.specs.declared.clock.Clock.{Clock}

-- a window's first second and its last one
pub window_bounds : (first last : ℤ) → is_window first last ≡ true → (first_second ≤ℤ first) × (first ≤ℤ last) × (last ≤ℤ last_second)
window_bounds first last h =
    let both = both_parts (int_le first_second first && int_le first last) (int_le last last_second) h in
    let parts = both_parts (int_le first_second first) (int_le first last) both.0 in
    (le_of first_second first parts.0, le_of first last parts.1, le_of last last_second both.1)

-- that of an accepted clock
pub accepted_bounds : (c : Clock) → is_accepted c ≡ true → (first_second ≤ℤ c.first) × (c.first ≤ℤ c.last) × (c.last ≤ℤ last_second)
accepted_bounds c h = window_bounds c.first c.last (both_parts (c.size == clock_size && int_eq c.reserved (pos 0)) (is_window c.first c.last) h).1

-- a second of the window
pub within_bounds : (c : Clock) (i : ℤ) → has c i ≡ true → (c.first ≤ℤ i) × (i ≤ℤ c.last)
within_bounds c i h =
    let both = both_parts (int_le c.first i) (int_le i c.last) h in
    (le_of c.first i both.0, le_of i c.last both.1)
