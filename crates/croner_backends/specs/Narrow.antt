-- A zone of which a backend holds only what lies between two instants.
use Rattle.std.specs.Prelude.{◌≡◌, ◌⊎◌, ◌&&◌, Bool, if◌then◌else◌, int_lt, int_le, ℤ, pos, ◌-ℤ◌, ◌<ℤ◌, ◌≤ℤ◌, Option, Some, None}
use Rattle.croner_base.specs.declared.time.value.Resolution.{Resolution}
use Rattle.croner_base.specs.declared.time.value.Resolution.TheVariants.{Single, Ambiguous, Gap}
use Rattle.croner_base.specs.Civil.{wall_second}
use Rattle.croner_base.specs.Zone.{Zone}

-- an instant from the first to the last that are held
abbrev pub is_between : ℤ → ℤ → ℤ → Bool
is_between low high i = int_le low i && int_le i high

-- the clock skips a wall second between the two: it shows less before the first, and more at the last
abbrev pub is_skipped : (ℤ → ℤ) → ℤ → ℤ → ℤ → Bool
is_skipped reads low high w = int_lt (reads (low -ℤ pos 1)) w && int_lt w (reads high)

-- each instant that is named for a wall second lies between the two; for a gap, it is skipped there
abbrev pub is_held : (ℤ → ℤ) → ℤ → ℤ → ℤ → Resolution ℤ → Bool
is_held reads low high w (Single i) = is_between low high i
is_held reads low high w (Ambiguous i j) = is_between low high i && is_between low high j
is_held reads low high w Gap = is_skipped reads low high w

-- such a resolution, and no other
abbrev pub narrowed : (ℤ → ℤ) → ℤ → ℤ → ℤ → Option (Resolution ℤ) → Option (Resolution ℤ)
narrowed reads low high w None = None
narrowed reads low high w (Some r) = if is_held reads low high w r then Some r else None

-- the zone, of which only what lies between the two is held
abbrev pub narrow : Zone → ℤ → ℤ → Zone
narrow z low high = record {
  reads = z.reads;
  resolves = λ c. narrowed z.reads low high (wall_second c) (z.resolves c);
  holds = λ i. is_between low high i && z.holds i;
}

-- the clock shows the wall second at the instant, or skips it there
abbrev pub ShowsOrSkips : (ℤ → ℤ) → ℤ → ℤ → Type 0
ShowsOrSkips reads w i = (reads i ≡ w) ⊎ ((reads (i -ℤ pos 1) <ℤ w) × (w <ℤ reads i))

-- each instant of that kind lies between the two
abbrev pub IsHeldBetween : (ℤ → ℤ) → ℤ → ℤ → ℤ → Type 0
IsHeldBetween reads low high w = (i : ℤ) → ShowsOrSkips reads w i → (low ≤ℤ i) × (i ≤ℤ high)
