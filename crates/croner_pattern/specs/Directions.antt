-- What comes before what in a direction, and the number so many on: of a second, a minute, an hour, a day, a month or a year.
use Rattle.std.specs.Prelude.{ℕ, ℤ, pos, neg_ℤ, ◌+ℤ◌, ◌<ℤ◌, ◌≤ℤ◌}
use Rattle.croner_base.specs.declared.time.Direction.{Direction}
use Rattle.croner_base.specs.declared.time.Direction.TheVariants.{Forward, Backward}

-- how far along the direction a number lies: backward its sign is turned
abbrev pub along : Direction → ℤ → ℤ
along Forward n = n
along Backward n = neg_ℤ n

-- a comes before b in the direction
abbrev pub Precedes : Direction → ℤ → ℤ → Type 0
Precedes direction a b = along direction a <ℤ along direction b

-- a comes no later than b in the direction
abbrev pub Reaches : Direction → ℤ → ℤ → Type 0
Reaches direction a b = along direction a ≤ℤ along direction b

-- the whole number so many on in the direction, and the next one
abbrev pub offset_from : Direction → ℤ → ℕ → ℤ
offset_from direction n count = n +ℤ along direction (pos count)

abbrev pub one_on : Direction → ℤ → ℤ
one_on direction n = offset_from direction n 1
