-- The cut of a text into the names of months and weekdays and single characters, and the text with a number in the
-- place of each name. Names have three capital letters; a capital that stands alone is `L` or `W`. A text is its
-- bytes: a character past ASCII is cut into bytes that stand for themselves.
use Rattle.std.specs.Prelude.{◌≡◌, ℕ, ◌+◌, Bool, true, false, not, ◌&&◌, ◌||◌, ◌==◌, nat_lt, nat_le, List, [], ◌∷◌, ◌++◌, slice_index_or, Option, Some, None, option_map, codes, if◌then◌else◌}
use Rattle.std.specs.List.{flat_map}
use Rattle.std.specs.Option.{option_or}
use Rattle.std.specs.Str.{bytes_eq}

-- the months, from January
abbrev pub months : List (List ℕ)
months =
    codes "JAN" ∷ codes "FEB" ∷ codes "MAR" ∷ codes "APR" ∷ codes "MAY" ∷ codes "JUN" ∷ codes "JUL" ∷ codes "AUG"
    ∷ codes "SEP" ∷ codes "OCT" ∷ codes "NOV" ∷ codes "DEC" ∷ []

-- the weekdays, from Sunday
abbrev pub weekdays : List (List ℕ)
weekdays = codes "SUN" ∷ codes "MON" ∷ codes "TUE" ∷ codes "WED" ∷ codes "THU" ∷ codes "FRI" ∷ codes "SAT" ∷ []

-- a piece of a text: a month or a weekday by its place from 0, or one character
pub data Piece : Type 0 where
  month : ℕ → Piece
  weekday : ℕ → Piece
  single : ℕ → Piece

-- what a piece is in the text
abbrev pub letters : Piece → List ℕ
letters (month n) = slice_index_or months n []
letters (weekday n) = slice_index_or weekdays n []
letters (single c) = c ∷ []

-- a capital letter that stands for nothing by itself: any but L and W
abbrev pub is_lost : ℕ → Bool
is_lost c = (nat_le 65 c && nat_le c 90) && not (c == 76 || c == 87)

-- a name of the lists, or a character that may stand alone
abbrev pub IsPiece : Piece → Type 0
IsPiece (month n) = nat_lt n 12 ≡ true
IsPiece (weekday n) = nat_lt n 7 ≡ true
IsPiece (single c) = is_lost c ≡ false

abbrev pub ArePieces : List Piece → Type 0
ArePieces [] = Unit {0}
ArePieces (p ∷ ps) = IsPiece p × ArePieces ps

-- a cut of a text into pieces
pub record IsCut (text : List ℕ) (pieces : List Piece) : Type 0 where
  pub spells : flat_map letters pieces ≡ text
  pub legal : ArePieces pieces

-- ---- the cut, found from the left

-- the place of a name in a list, counted from n
abbrev pub place_of : List ℕ → ℕ → List (List ℕ) → Option ℕ
place_of name n [] = None
place_of name n (x ∷ xs) = if bytes_eq name x then Some n else place_of name (n + 1) xs

-- the month or the weekday of that name
abbrev pub name_of : List ℕ → Option Piece
name_of name = option_or (option_map month (place_of name 0 months)) (option_map weekday (place_of name 0 weekdays))

abbrev pub onto : Piece → Option (List Piece) → Option (List Piece)
onto p rest = option_map (λ ps. p ∷ ps) rest

-- one character, and the cut of the rest
abbrev pub alone : ℕ → Option (List Piece) → Option (List Piece)
alone c rest = if is_lost c then None else onto (single c) rest

-- a name where there is one, and else the other cut
abbrev pub named : Option Piece → Option (List Piece) → Option (List Piece) → Option (List Piece)
named None other rest = other
named (Some p) other rest = onto p rest

-- the cut of a text, where it has one
abbrev pub cut_of : List ℕ → Option (List Piece)
cut_of [] = Some []
cut_of (a ∷ []) = alone a (Some [])
cut_of (a ∷ b ∷ []) = alone a (alone b (Some []))
cut_of (a ∷ b ∷ c ∷ rest) = named (name_of (a ∷ b ∷ c ∷ [])) (alone a (cut_of (b ∷ c ∷ rest))) (cut_of rest)

-- ---- numbers for names

-- a number of one or two digits
abbrev pub decimal_of : ℕ → List ℕ
decimal_of n = if nat_lt n 10 then (48 + n) ∷ [] else 49 ∷ (38 + n) ∷ []

-- the number of a weekday: Sunday is 0, and 7 directly after a dash; in Quartz mode it is 1
abbrev pub weekday_number : Bool → Bool → ℕ → ℕ
weekday_number quartz after_dash n = if quartz then (n + 1) else if after_dash && n == 0 then 7 else n

-- what stands for a piece
abbrev pub shown : Bool → Bool → Piece → List ℕ
shown quartz after_dash (month n) = decimal_of (n + 1)
shown quartz after_dash (weekday n) = decimal_of (weekday_number quartz after_dash n)
shown quartz after_dash (single c) = c ∷ []

abbrev pub is_dash : Piece → Bool
is_dash (single c) = c == 45
is_dash other = false

-- the text with a number in the place of each name
abbrev pub expansion : Bool → Bool → List Piece → List ℕ
expansion quartz after_dash [] = []
expansion quartz after_dash (p ∷ ps) = shown quartz after_dash p ++ expansion quartz (is_dash p) ps

-- the same of a text, where it has a cut
abbrev pub replaced : Bool → Bool → List ℕ → Option (List ℕ)
replaced quartz after_dash text = option_map (expansion quartz after_dash) (cut_of text)
