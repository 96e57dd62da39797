-- What comes before what in a direction, and in the other one.
use Rattle.std.proofs.Common.{◌≡◌, inl, inr, arith, ℕ, ℤ, pos, neg_ℤ, ◌+ℤ◌, ◌-ℤ◌, ◌≤ℤ◌}
use Rattle.std.proofs.lemmas.Int.{ints}
pub use Rattle.croner_base.specs.declared.time.Direction.{Direction}
pub use Rattle.croner_base.specs.declared.time.Direction.TheVariants.{Forward, Backward}
pub use Rattle.croner_pattern.specs.Directions.{along, Precedes, Reaches, offset_from, one_on}
pub use Rattle.croner.specs.Private.search.Halves.{opposite_way}
pub use Rattle.croner_pattern.proofs.civil.Ahead.{along-offset, reaches-same, reaches-equal, reaches-trans, precedes-reaches, precedes-trans, reaches-precedes, not_both, either, same_or_ahead, both_ways}

pub zero_on : (dir : Direction) (a : ℤ) → offset_from dir a 0 ≡ a
zero_on dir a = grind (arith, ints)

pub offset_within : (direction : Direction) (s : ℤ) (n : ℕ) → ((s -ℤ pos n) ≤ℤ offset_from direction s n) × (offset_from direction s n ≤ℤ (s +ℤ pos n))
offset_within direction s n = (grind (arith, ints), grind (arith, ints))

pub along-opposite : (dir : Direction) (a : ℤ) → along (opposite_way dir) a ≡ neg_ℤ (along dir a)
along-opposite dir a = grind (arith, ints)

-- so far on as from b to c
pub along-shift : (dir : Direction) (a b c : ℤ) → along dir (a +ℤ (c -ℤ b)) ≡ along dir a +ℤ (along dir c -ℤ along dir b)
along-shift Forward a b c = omega (arith, ints)
along-shift Backward a b c = omega (arith, ints)

pub both_next : (dir : Direction) (a b : ℤ) → Precedes dir a b → Precedes dir (a +ℤ pos 1) (b +ℤ pos 1)
both_next dir a b h = grind (arith, ints)

-- a comes no later than b where b does not come before it, and before b where b comes neither before it nor with it
pub reaches_unless : (dir : Direction) (a b : ℤ) → (Precedes dir b a → ⊥) → Reaches dir a b
reaches_unless dir a b never = elim (either dir b a) [ inl lt ↦ absurd (never lt) | inr le ↦ le ]

pub precedes_unless : (dir : Direction) (a b : ℤ) → (Reaches dir b a → ⊥) → Precedes dir a b
precedes_unless dir a b never = elim (either dir a b) [ inl lt ↦ lt | inr le ↦ absurd (never le) ]

-- right before a number in the direction
pub along-before : (dir : Direction) (own e : ℤ) → own ≡ one_on (opposite_way dir) e → along dir e ≡ along dir own +ℤ pos 1
along-before dir own e is = grind (arith, ints)

pub opposite : (dir : Direction) (a b : ℤ) → Precedes dir a b → Precedes (opposite_way dir) b a
opposite dir a b h = omega (arith, ints, along-opposite dir a, along-opposite dir b)

pub opposite-reaches : (dir : Direction) (a b : ℤ) → Reaches (opposite_way dir) a b → Reaches dir b a
opposite-reaches dir a b h = omega (arith, ints, along-opposite dir a, along-opposite dir b)
