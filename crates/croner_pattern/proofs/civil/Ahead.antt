-- What comes before what in a direction. Where numbers lie along it, each such fact is one call of `omega` for either direction, with
-- `along-offset` for each number that is so many on; these lemmas are for what needs no call of its own.
use Rattle.std.proofs.Common.{◌≡◌, ◌⊎◌, inl, inr, arith, ℕ, ◌+◌, ◌-◌, ◌<◌, ◌≤◌, ℤ, pos, negsuc, ◌+ℤ◌, ◌-ℤ◌}
use Rattle.std.proofs.lemmas.Int.{by_lt_z}
use Rattle.jiff_core.proofs.SignedLemmas.{signed_arith}
use Rattle.croner_base.specs.declared.time.Direction.{Direction}
use Rattle.croner_base.specs.declared.time.Direction.TheVariants.{Forward, Backward}
use Rattle.croner_pattern.specs.Directions.{along, Precedes, Reaches, offset_from}
use Rattle.croner_pattern.specs.Private.Cursor.{one_on, IsOnTheWay}

pub along-offset : (dir : Direction) (a : ℤ) (n : ℕ) → along dir (offset_from dir a n) ≡ along dir a +ℤ pos n
along-offset dir a n = grind (arith, signed_arith)

-- what lies as far apart does so along each direction
pub along-gap : (dir : Direction) (a b c d : ℤ) → b -ℤ a ≡ d -ℤ c → along dir b -ℤ along dir a ≡ along dir d -ℤ along dir c
along-gap Forward a b c d h = h
along-gap Backward a b c d h = omega (arith, signed_arith)

pub reaches-same : (dir : Direction) (a : ℤ) → Reaches dir a a
reaches-same dir a = omega (arith, signed_arith)

pub reaches-equal : (dir : Direction) (a b : ℤ) → a ≡ b → Reaches dir a b
reaches-equal dir a b e = grind (arith, signed_arith)

pub reaches-trans : (dir : Direction) (a b c : ℤ) → Reaches dir a b → Reaches dir b c → Reaches dir a c
reaches-trans dir a b c h k = omega (arith, signed_arith)

pub precedes-reaches : (dir : Direction) (a b : ℤ) → Precedes dir a b → Reaches dir a b
precedes-reaches dir a b h = omega (arith, signed_arith)

pub precedes-trans : (dir : Direction) (a b c : ℤ) → Precedes dir a b → Reaches dir b c → Precedes dir a c
precedes-trans dir a b c h k = omega (arith, signed_arith)

pub reaches-precedes : (dir : Direction) (a b c : ℤ) → Reaches dir a b → Precedes dir b c → Precedes dir a c
reaches-precedes dir a b c h k = omega (arith, signed_arith)

pub not_both : (dir : Direction) (a b : ℤ) → Precedes dir a b → Reaches dir b a → ⊥
not_both dir a b h k = omega (arith, signed_arith)

pub either : (dir : Direction) (a b : ℤ) → Precedes dir a b ⊎ Reaches dir b a
either dir a b = by_lt_z (along dir a) (along dir b) (λ h. inl h) (λ h. inr h)

pub both_ways : (dir : Direction) (a b : ℤ) → Reaches dir a b → Reaches dir b a → a ≡ b
both_ways dir a b h k = grind (arith, signed_arith)

pub same_or_ahead : (dir : Direction) (a b : ℤ) → Reaches dir a b → (a ≡ b) ⊎ Precedes dir a b
same_or_ahead dir a b h = by_lt_z (along dir a) (along dir b) (λ k. inr k) (λ k. inl (both_ways dir a b h k))

-- ---- the numbers that a search goes through

-- how many numbers are left from a value on
abbrev pub steps_left : Direction → ℕ → ℕ → ℕ
steps_left Forward max value = max + 1 - value
steps_left Backward max value = value

pub neighbour-way : (dir : Direction) (min max v n : ℕ) → min ≤ v → v ≤ max → pos n ≡ one_on dir (pos v) → IsOnTheWay dir min max n
neighbour-way dir min max v n low h e = grind (arith, signed_arith)

pub past_zero : (dir : Direction) (v y : ℕ) → one_on dir (pos v) ≡ negsuc 0 → Reaches dir (one_on dir (pos v)) (pos y) → ⊥
past_zero dir v y e r = grind (arith, signed_arith)

pub fewer_left : (dir : Direction) (max from v n : ℕ) → v ≤ max → Reaches dir (pos from) (pos v) → pos n ≡ one_on dir (pos v) → steps_left dir max n < steps_left dir max from
fewer_left Forward max from v n high on e = omega (arith, signed_arith)
fewer_left Backward max from v n high on e = omega (arith, signed_arith)
