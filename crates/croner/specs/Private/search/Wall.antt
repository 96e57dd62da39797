-- Moves of one second on the wall clock.
-- Private contracts alone cite these definitions.
use Rattle.std.specs.Prelude.{◌≡◌, ℤ, pos, neg_ℤ}
use Rattle.croner_base.specs.declared.time.Direction.{Direction}
use Rattle.croner_base.specs.declared.time.Direction.TheVariants.{Forward, Backward}

-- the last year in the direction that a civil date can have
abbrev pub IsLastYear : Direction → ℤ → Type 0
IsLastYear Forward year = year ≡ pos 2_147_483_647
IsLastYear Backward year = year ≡ neg_ℤ (pos 2_147_483_648)
