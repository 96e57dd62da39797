-- How values, pieces and lists are written, in the terms of a language.
use Rattle.std.specs.Prelude.{ℕ, ◌-◌, nat_lt, nat_le, Bool, true, false, ◌==◌, List, [], ◌∷◌, ◌++◌, map, take, drop, length, codes, decimal, Option, Some, None, if◌then◌else◌}
use Rattle.croner_pattern.specs.Private.Lists.{from_place}
use Rattle.croner_summary.specs.declared.language.Style.{Style}
use Rattle.croner_summary.specs.declared.language.SummaryLanguage.{SummaryLanguage}
use Rattle.croner_summary.specs.declared.language.SummaryLanguage.TheVariants.{English, Swedish}
use Rattle.croner_summary.specs.declared.language.Term.{Term}
use Rattle.croner_summary.specs.declared.language.Term.TheVariants.{To, And, More, EachOne, FromValue, Each, Plural, From, OnlyEnd, NthEnd}
use Rattle.croner_summary.specs.declared.language.TimeUnit.{TimeUnit}
use Rattle.croner_summary.specs.declared.phrase.Piece.{Piece}
use Rattle.croner_summary.specs.declared.phrase.Piece.TheVariants.{Every, EveryNth, One, Range, RangeNth}
use Rattle.croner_summary.specs.declared.words.Kind.{Kind}
use Rattle.croner_summary.specs.declared.words.Kind.TheVariants.{Number, Year, Ordinal, Weekday, NthWeekday, OnlyWeekday, Month, HourAt, MinuteOf}
use Rattle.croner_summary.specs.English.{english_every, english_month, english_nth, english_ordinal_end, english_term, english_unit, english_weekday}
use Rattle.croner_summary.specs.Swedish.{swedish_every, swedish_month, swedish_nth, swedish_ordinal_end, swedish_term, swedish_unit, swedish_weekday}

-- ---- what each language has

unfoldable pub term_text : SummaryLanguage → Term → List ℕ
term_text English term = english_term term
term_text Swedish term = swedish_term term

unfoldable pub unit_name : SummaryLanguage → TimeUnit → List ℕ
unit_name English unit = english_unit unit
unit_name Swedish unit = swedish_unit unit

unfoldable pub ordinal_end : SummaryLanguage → ℕ → List ℕ
ordinal_end English n = english_ordinal_end n
ordinal_end Swedish n = swedish_ordinal_end n

unfoldable pub weekday_name : SummaryLanguage → ℕ → List ℕ
weekday_name English n = english_weekday n
weekday_name Swedish n = swedish_weekday n

unfoldable pub month_name : SummaryLanguage → ℕ → List ℕ
month_name English n = english_month n
month_name Swedish n = swedish_month n

-- every so many units, at the head of a text
unfoldable pub every_text : SummaryLanguage → ℕ → TimeUnit → List ℕ
every_text English n unit = english_every n unit
every_text Swedish n unit = swedish_every n unit

-- every nth, before what it is, which may be a year
unfoldable pub nth_text : SummaryLanguage → Bool → ℕ → List ℕ
nth_text English is_year n = english_nth n
nth_text Swedish is_year n = swedish_nth false is_year n

-- ---- values

unfoldable pub ordinal : SummaryLanguage → ℕ → List ℕ
ordinal l n = decimal n ++ ordinal_end l n

-- a number in two places
unfoldable pub two_places : ℕ → List ℕ
two_places n = if nat_lt n 10 then codes "0" ++ decimal n else decimal n

-- the seconds of a time of day, where they aren't 0
unfoldable pub second_text : ℕ → List ℕ
second_text second = if second == 0 then [] else codes ":" ++ two_places second

-- a time of day: two places each
unfoldable pub clock_text : ℕ → ℕ → ℕ → List ℕ
clock_text hour minute second = two_places hour ++ (codes ":" ++ (two_places minute ++ second_text second))

-- a value of its kind
abbrev pub value_text : SummaryLanguage → Kind → ℕ → List ℕ
value_text l Number n = decimal n
value_text l Year n = decimal n
value_text l Ordinal n = ordinal l n
value_text l Weekday n = weekday_name l n
value_text l NthWeekday n = weekday_name l n ++ term_text l NthEnd
value_text l OnlyWeekday n = weekday_name l n ++ term_text l OnlyEnd
value_text l Month n = month_name l n
value_text l (HourAt minute second) hour = clock_text hour minute second
value_text l (MinuteOf hour second) minute = clock_text hour minute second

-- the least value of a kind, with which the steps of the whole field begin
abbrev pub least_of : Kind → ℕ
least_of Number = 0
least_of Year = 1
least_of Ordinal = 1
least_of Weekday = 0
least_of NthWeekday = 0
least_of OnlyWeekday = 0
least_of Month = 1
least_of (HourAt minute second) = 0
least_of (MinuteOf hour second) = 0

-- the values are years
abbrev pub is_year : Kind → Bool
is_year Number = false
is_year Year = true
is_year Ordinal = false
is_year Weekday = false
is_year NthWeekday = false
is_year OnlyWeekday = false
is_year Month = false
is_year (HourAt minute second) = false
is_year (MinuteOf hour second) = false

-- from one value to another
unfoldable pub span_text : SummaryLanguage → Kind → ℕ → ℕ → List ℕ
span_text l kind first last = value_text l kind first ++ (term_text l To ++ value_text l kind last)

-- ---- pieces and lists

-- a piece in a list
abbrev pub piece_text : SummaryLanguage → Kind → Piece → List ℕ
piece_text l kind Every = term_text l EachOne
piece_text l kind (EveryNth n) = (nth_text l (is_year kind) n ++ term_text l FromValue) ++ value_text l kind (least_of kind)
piece_text l kind (One n) = value_text l kind n
piece_text l kind (Range first last) = span_text l kind first last
piece_text l kind (RangeNth first last n) = (nth_text l (is_year kind) n ++ term_text l FromValue) ++ span_text l kind first last

-- what goes before an item of a list, at its place from 0
abbrev pub separator : SummaryLanguage → ℕ → Bool → List ℕ
separator l place is_last = if place == 0 then [] else (if is_last then term_text l And else codes ", ")

-- how many more there are
abbrev pub left_text : SummaryLanguage → ℕ → List ℕ
left_text l left = decimal left ++ term_text l More

-- the items of a list: its pieces, or the first of them and how many more there are
abbrev pub items_of : Style → Kind → List Piece → List (List ℕ)
items_of style kind pieces =
    map (piece_text style.language kind) (take style.most pieces)
    ++ (if nat_le (length pieces) style.most then [] else left_text style.language (length pieces - style.most) ∷ [])

-- pieces as a list: `1, 3 to 5 and 9`
unfoldable pub list_text : Style → Kind → List Piece → List ℕ
list_text style kind pieces = from_place (separator style.language) 0 (items_of style kind pieces)

-- the one piece of a list
abbrev pub only_piece : List Piece → Option Piece
only_piece [] = None
only_piece (one ∷ []) = Some one
only_piece (one ∷ two ∷ more) = None

-- the step that a list of more than one piece begins with
abbrev pub head_step : List Piece → Option ℕ
head_step (EveryNth n ∷ one ∷ more) = Some n
head_step other = None

-- ---- units

-- a step of a unit: `every 5th minute from `
unfoldable pub step_text : SummaryLanguage → TimeUnit → ℕ → List ℕ
step_text l unit n = nth_text l false n ++ (unit_name l unit ++ term_text l From)

-- every nth from the least value on: `every 5th minute from 0`
unfoldable pub whole_step : SummaryLanguage → TimeUnit → ℕ → List ℕ
whole_step l unit n = step_text l unit n ++ decimal 0

-- a unit before several numbers: `minutes `
unfoldable pub units_text : SummaryLanguage → TimeUnit → List ℕ
units_text l unit = unit_name l unit ++ (term_text l Plural ++ codes " ")

-- pieces of a unit whose values are numbers from 0: one piece, or a list
unfoldable pub sole_text : Style → TimeUnit → List Piece → Option Piece → List ℕ
sole_text style unit pieces (Some Every) = term_text style.language Each ++ unit_name style.language unit
sole_text style unit pieces (Some (EveryNth n)) = whole_step style.language unit n
sole_text style unit pieces (Some (One n)) = unit_name style.language unit ++ (codes " " ++ decimal n)
sole_text style unit pieces (Some (Range first last)) = units_text style.language unit ++ span_text style.language Number first last
sole_text style unit pieces (Some (RangeNth first last n)) = step_text style.language unit n ++ span_text style.language Number first last
sole_text style unit pieces None = units_text style.language unit ++ list_text style Number pieces

-- pieces of a unit, of which the first may be a step: `every 6th hour from 0 and hour 9`
unfoldable pub headed_text : Style → TimeUnit → List Piece → Option ℕ → List ℕ
headed_text style unit pieces None = sole_text style unit pieces (only_piece pieces)
headed_text style unit pieces (Some n) =
    whole_step style.language unit n ++ (term_text style.language And ++ sole_text style unit (drop 1 pieces) (only_piece (drop 1 pieces)))

unfoldable pub unit_text : Style → TimeUnit → List Piece → List ℕ
unit_text style unit pieces = headed_text style unit pieces (head_step pieces)
