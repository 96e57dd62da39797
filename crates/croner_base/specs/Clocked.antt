-- The value of a zone at a whole second. Source: this crate's documentation of `Clocked`.
use Rattle.std.specs.Prelude.{◌≡◌, true, false, ℤ, Option, Some, None}
use Rattle.croner_base.specs.Zone.{Zone, Moment, at_instant}

-- the value names that whole second of the zone, and nothing after it; there is none where the zone does not hold the second
abbrev pub IsAtSecond : {T : Type 0} → (T → Moment) → Zone → ℤ → Option T → Type 0
IsAtSecond moment z i (Some t) = (moment t ≡ at_instant z i) × (z.holds i ≡ true)
IsAtSecond moment z i None = z.holds i ≡ false
