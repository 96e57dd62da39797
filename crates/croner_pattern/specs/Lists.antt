-- How a description writes lists: of texts, and of numbers, where three or more in a row are a range.
use Rattle.std.specs.Prelude.{ℕ, ◌+◌, ◌==◌, nat_le, List, [], ◌∷◌, ◌++◌, map, codes, decimal, if◌then◌else◌}
use Rattle.std.specs.List.{flat_map}
use Rattle.croner_base.specs.Field.{values_between}

-- the items of a list but for the last, and the last
abbrev pub but_last : {X : Type 0} → X → List X → List X
but_last item [] = []
but_last item (next ∷ more) = item ∷ but_last next more

abbrev pub last_of : {X : Type 0} → X → List X → X
last_of item [] = item
last_of item (next ∷ more) = last_of next more

-- texts joined by another between each two of them
abbrev pub each_after : List ℕ → List (List ℕ) → List ℕ
each_after between [] = []
each_after between (item ∷ more) = between ++ (item ++ each_after between more)

abbrev pub joined : List ℕ → List (List ℕ) → List ℕ
joined between [] = []
joined between (item ∷ more) = item ++ each_after between more

-- none is the empty text, one is itself, two are joined by the language's word, and more are joined by commas, with a comma
-- and the word before the last
abbrev pub text_list : List ℕ → List (List ℕ) → List ℕ
text_list and [] = []
text_list and (one ∷ []) = one
text_list and (one ∷ two ∷ []) = one ++ (codes " " ++ (and ++ (codes " " ++ two)))
text_list and (one ∷ two ∷ three ∷ more) =
    joined (codes ", ") (but_last one (two ∷ three ∷ more)) ++ (codes ", " ++ (and ++ (codes " " ++ last_of one (two ∷ three ∷ more))))

-- values in a row, from the first to the last
pub record Streak : Type 0 where
  pub first : ℕ
  pub last : ℕ

-- the maximal streaks of ascending values: a value lengthens the streak that begins right after it
abbrev pub with_value : ℕ → List Streak → List Streak
with_value value [] = record { first = value; last = value } ∷ []
with_value value (streak ∷ more) =
    if streak.first == value + 1 then (record { first = value; last = streak.last } ∷ more)
    else (record { first = value; last = value } ∷ streak ∷ more)

abbrev pub streaks_of : List ℕ → List Streak
streaks_of [] = []
streaks_of (value ∷ more) = with_value value (streaks_of more)

-- what a number list is made of
pub data Item : Type 0 where
  number : ℕ → Item
  range : ℕ → ℕ → Item

-- a streak of three or more is a range, and the values of a shorter one are numbers
abbrev pub items_of : Streak → List Item
items_of streak =
    if nat_le (streak.first + 2) streak.last then (range streak.first streak.last ∷ [])
    else map number (values_between streak.first streak.last)

-- ascending values as items: three or more in a row are a range
abbrev pub number_items : List ℕ → List Item
number_items values = flat_map items_of (streaks_of values)

-- an item in digits
abbrev pub item_text : Item → List ℕ
item_text (number n) = decimal n
item_text (range a b) = decimal a ++ (codes "-" ++ decimal b)

-- ascending values as a list in words
abbrev pub number_list : List ℕ → List ℕ → List ℕ
number_list and values = text_list and (map item_text (number_items values))

-- the values that an item stands for
abbrev pub covered : Item → List ℕ
covered (number n) = n ∷ []
covered (range a b) = values_between a b
