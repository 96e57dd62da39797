-- Changes of an offset in small windows, computed from the definitions.
use Rattle.std.proofs.Common.{◌≡◌, refl, ℤ, pos, int_le, if◌then◌else◌, [], ◌∷◌}
use Rattle.croner_base.specs.Table.{offset_at}
use Rattle.croner_base.specs.ZoneTable.{changes_after, nearest_in}

-- an offset that is an hour from second 5 on, and for the seconds 8 and 9 alone half an hour
abbrev moved : ℤ → ℤ
moved i = if int_le (pos 10) i then pos 3_600 else (if int_le (pos 8) i then pos 1_800 else (if int_le (pos 5) i then pos 3_600 else pos 0))

-- each change is there once, also those two seconds apart
all_of_them : changes_after moved (pos 0) 12 ≡ (pos 5, pos 3_600) ∷ (pos 8, pos 1_800) ∷ (pos 10, pos 3_600) ∷ []
unfolding changes_after
all_of_them = refl

-- one at the last second counts, one at the first second does not
at_the_last : changes_after moved (pos 0) 5 ≡ (pos 5, pos 3_600) ∷ []
unfolding changes_after
at_the_last = refl

before_the_last : changes_after moved (pos 0) 4 ≡ []
unfolding changes_after
before_the_last = refl

at_the_first : changes_after moved (pos 5) 2 ≡ []
unfolding changes_after
at_the_first = refl

-- a window of one second
one_second : changes_after moved (pos 5) 0 ≡ []
unfolding changes_after
one_second = refl

-- what the table of a window shows in it
shown_within : offset_at (pos 0) (changes_after moved (pos 0) 12) (pos 9) ≡ pos 1_800
unfolding changes_after
shown_within = refl

-- before it and after it
nearest_before : nearest_in (pos 5) (pos 7) (pos 0) ≡ pos 5
nearest_before = refl

nearest_within : nearest_in (pos 5) (pos 7) (pos 6) ≡ pos 6
nearest_within = refl

nearest_behind : nearest_in (pos 5) (pos 7) (pos 8) ≡ pos 7
nearest_behind = refl
