-- Days in words.
use Rattle.std.specs.Prelude.{ℕ, nat_lt, Bool, true, false, not, ◌&&◌, ◌||◌, ◌==◌, List, [], ◌++◌, length, codes, Option, Some, None, if◌then◌else◌}
use Rattle.std.specs.List.{list_all, list_any}
use Rattle.croner_summary.specs.declared.days.Days.{Days}
use Rattle.croner_summary.specs.declared.days.Days.TheVariants.{Every as EveryDay, OfMonth, OfWeek, Either, Both}
use Rattle.croner_summary.specs.declared.days.FromEnd.{FromEnd}
use Rattle.croner_summary.specs.declared.days.FromEnd.TheVariants.{Neither, LastDay, LastWorkingDay}
use Rattle.croner_summary.specs.declared.days.MonthDays.{MonthDays}
use Rattle.croner_summary.specs.declared.days.Weekdays.{Weekdays}
use Rattle.croner_summary.specs.declared.language.Style.{Style}
use Rattle.croner_summary.specs.declared.language.SummaryLanguage.{SummaryLanguage}
use Rattle.croner_summary.specs.declared.language.Term.{Term}
use Rattle.croner_summary.specs.declared.language.Term.TheVariants.{And, Each, EachFrom, On, AndOn, The, FromThe, ToThe, DatedThe, ButOnly, OnlyEach, FirstTime, SecondTime, ThirdTime, FourthTime, FifthTime, LastTime, OfEachWeekday, OfTheMonth, TheLastDay, TheLastWorkingDay, TheFirstWorkingDay, Nearest, HavingOne, HavingOneEnd, HavingDays}
use Rattle.croner_summary.specs.declared.language.TimeUnit.TheVariants.{Day}
use Rattle.croner_summary.specs.declared.phrase.Phrase.{Phrase}
use Rattle.croner_summary.specs.declared.phrase.Piece.{Piece}
use Rattle.croner_summary.specs.declared.phrase.Piece.TheVariants.{Every, EveryNth, One, Range, RangeNth}
use Rattle.croner_summary.specs.declared.words.Kind.{Kind}
use Rattle.croner_summary.specs.declared.words.Kind.TheVariants.{Ordinal, Weekday, NthWeekday, OnlyWeekday}
use Rattle.croner_summary.specs.Words.{list_text, nth_text, ordinal, only_piece, span_text, term_text, unit_name, weekday_name}
use Rattle.croner_summary.specs.TimeWords.{is_one, is_sole, value_of}

-- a phrase names something
unfoldable pub is_some : Phrase → Bool
is_some p = nat_lt 0 (length p.pieces.items)

-- what goes before a part of the days: another part was told, or none
abbrev pub on_text : SummaryLanguage → Bool → List ℕ
on_text l told = if told then term_text l AndOn else term_text l On

-- ---- weekdays

-- values in a row
abbrev pub is_range : Option Piece → Bool
is_range (Some (Range first last)) = true
is_range other = false

-- all values
abbrev pub is_all : Option Piece → Bool
is_all (Some Every) = true
is_all other = false

-- weekdays after a term: `each Monday and Friday`; all of them: `each day`
unfoldable pub named_weekdays : Style → Kind → Term → List Piece → List ℕ
named_weekdays style kind before pieces =
    if is_all (only_piece pieces) then term_text style.language Each ++ unit_name style.language Day
    else term_text style.language before ++ list_text style kind pieces

-- those of a phrase, if it has any: ` on each Monday and Friday`
unfoldable pub weekday_part : Style → Kind → Term → Bool → Phrase → List ℕ
weekday_part style kind before told p =
    if is_some p then on_text style.language told ++ named_weekdays style kind before p.pieces.items else []

-- what goes before weekdays each time that they come
abbrev pub each_term : Option Piece → Term
each_term one = if is_range one then EachFrom else Each

-- what goes before nth weekdays: others of them were listed, or not
abbrev pub nth_on_text : SummaryLanguage → Bool → Bool → List ℕ
nth_on_text l told listed = if listed then term_text l And else on_text l told

-- weekdays by their names, all of them from Sunday to Saturday
unfoldable pub weekday_names : Style → List Piece → List ℕ
weekday_names style pieces =
    if is_all (only_piece pieces) then span_text style.language Weekday 0 6 else list_text style Weekday pieces

-- weekdays of which some are in a row, each for itself: `of each weekday, Monday to Friday,`
unfoldable pub each_weekday : Style → List Piece → List ℕ
each_weekday style pieces = term_text style.language OfEachWeekday ++ (weekday_names style pieces ++ codes ",")

-- weekdays after `the first `
unfoldable pub nth_names : Style → List Piece → List ℕ
nth_names style pieces = if list_all is_one pieces then list_text style NthWeekday pieces else each_weekday style pieces

-- weekdays of which one of a month is meant: ` on the first Monday`
unfoldable pub nth_part : Style → Term → Bool → Bool → Phrase → List ℕ
nth_part style before told listed p =
    if is_some p then nth_on_text style.language told listed ++ (term_text style.language before ++ nth_names style p.pieces.items)
    else []

unfoldable pub from_fifth : Style → Bool → Bool → Weekdays → List ℕ
from_fifth style told listed w =
    nth_part style FifthTime told listed w.fifth ++ nth_part style LastTime told (listed || is_some w.fifth) w.last

unfoldable pub from_fourth : Style → Bool → Bool → Weekdays → List ℕ
from_fourth style told listed w =
    nth_part style FourthTime told listed w.fourth ++ from_fifth style told (listed || is_some w.fourth) w

unfoldable pub from_third : Style → Bool → Bool → Weekdays → List ℕ
from_third style told listed w =
    nth_part style ThirdTime told listed w.third ++ from_fourth style told (listed || is_some w.third) w

unfoldable pub from_second : Style → Bool → Bool → Weekdays → List ℕ
from_second style told listed w =
    nth_part style SecondTime told listed w.second ++ from_third style told (listed || is_some w.second) w

unfoldable pub from_first : Style → Bool → Weekdays → List ℕ
from_first style told w = nth_part style FirstTime told false w.first ++ from_second style told (is_some w.first) w

-- a weekday is named as the nth or the last of a month
unfoldable pub has_nth : Weekdays → Bool
has_nth w =
    is_some w.first || (is_some w.second || (is_some w.third || (is_some w.fourth || (is_some w.fifth || is_some w.last))))

-- such weekdays: ` on the second Tuesday and the fourth Thursday of the month`
unfoldable pub nth_weekdays : Style → Bool → Weekdays → List ℕ
nth_weekdays style told w = if has_nth w then from_first style told w ++ term_text style.language OfTheMonth else []

unfoldable pub weekdays_text : Style → Bool → Weekdays → List ℕ
weekdays_text style told w =
    weekday_part style Weekday (each_term (only_piece w.each.pieces.items)) told w.each ++ nth_weekdays style (told || is_some w.each) w

-- weekdays to which days are narrowed: `, but only on Mondays`
unfoldable pub only_text : Style → Weekdays → List ℕ
only_text style w =
    term_text style.language ButOnly ++ (weekday_part style OnlyWeekday OnlyEach false w.each ++ nth_weekdays style (is_some w.each) w)

unfoldable pub names_weekday : Weekdays → Bool
names_weekday w = is_some w.each || has_nth w

-- weekdays in a row, with others beside or without
unfoldable pub has_range : List Piece → Bool
has_range pieces = list_any (λ piece. is_range (Some piece)) pieces

unfoldable pub of_week_text : Style → Weekdays → List ℕ
of_week_text style w =
    if has_range w.each.pieces.items && not (has_nth w) then codes ", " ++ list_text style Weekday w.each.pieces.items
    else weekdays_text style false w

-- ---- days of the month

-- from one day to another: ` from the 1st to the 31st`
unfoldable pub between_days : SummaryLanguage → ℕ → ℕ → List ℕ
between_days l first last = term_text l FromThe ++ (ordinal l first ++ (term_text l ToThe ++ ordinal l last))

-- days at a step: `every 2nd day`
unfoldable pub nth_day : SummaryLanguage → ℕ → List ℕ
nth_day l n = nth_text l false n ++ unit_name l Day

-- days by number, by the one piece that they have: `the 1st and 15th`, `every 2nd day from the 1st to the 31st`
unfoldable pub numbered : Style → List Piece → Option Piece → List ℕ
numbered style pieces (Some Every) = term_text style.language Each ++ unit_name style.language Day
numbered style pieces (Some (EveryNth n)) =
    nth_day style.language n ++ (term_text style.language FromThe ++ ordinal style.language 1)
numbered style pieces (Some (RangeNth first last n)) =
    nth_day style.language n ++ between_days style.language first last
numbered style pieces (Some (One day)) = term_text style.language The ++ list_text style Ordinal pieces
numbered style pieces (Some (Range first last)) = term_text style.language The ++ list_text style Ordinal pieces
numbered style pieces None = term_text style.language The ++ list_text style Ordinal pieces

unfoldable pub numbers_text : Style → Phrase → List ℕ
numbers_text style p =
    if is_some p then term_text style.language On ++ numbered style p.pieces.items (only_piece p.pieces.items) else []

unfoldable pub from_end_text : SummaryLanguage → Bool → FromEnd → List ℕ
from_end_text l told Neither = []
from_end_text l told LastDay = on_text l told ++ term_text l TheLastDay
from_end_text l told LastWorkingDay = on_text l told ++ term_text l TheLastWorkingDay

-- some month hasn't a day that is named; of all days, or each nth of them, each month has its own
abbrev pub is_late : Piece → Bool
is_late Every = false
is_late (EveryNth n) = false
is_late (One n) = nat_lt 28 n
is_late (Range first last) = nat_lt 28 last
is_late (RangeNth first last n) = nat_lt 28 last

-- only months that have the day: ` (in months that have a 31st)`
unfoldable pub having_text : SummaryLanguage → Option Piece → List ℕ
having_text l (Some (One n)) = term_text l HavingOne ++ (ordinal l n ++ term_text l HavingOneEnd)
having_text l other = term_text l HavingDays

unfoldable pub late_text : SummaryLanguage → List Piece → List ℕ
late_text l pieces = if list_any is_late pieces then having_text l (only_piece pieces) else []

unfoldable pub near_days : Style → List Piece → List ℕ
near_days style pieces = term_text style.language Nearest ++ (numbered style pieces (only_piece pieces) ++ late_text style.language pieces)

-- the 1st alone
unfoldable pub is_first_day : Option Piece → Bool
is_first_day one = is_sole one && value_of one == 1

unfoldable pub nearest : Style → List Piece → List ℕ
nearest style pieces =
    if is_first_day (only_piece pieces) then term_text style.language TheFirstWorkingDay else near_days style pieces

unfoldable pub nearest_text : Style → Bool → Phrase → List ℕ
nearest_text style told p = if is_some p then on_text style.language told ++ nearest style p.pieces.items else []

-- a day is counted from the end
abbrev pub is_counted : FromEnd → Bool
is_counted Neither = false
is_counted LastDay = true
is_counted LastWorkingDay = true

unfoldable pub after_numbers_text : Style → Bool → MonthDays → List ℕ
after_numbers_text style told d =
    from_end_text style.language told d.from_end ++ nearest_text style (told || is_counted d.from_end) d.nearest

unfoldable pub month_days_text : Style → MonthDays → List ℕ
month_days_text style d = numbers_text style d.numbers ++ after_numbers_text style (is_some d.numbers) d

unfoldable pub names_month_day : MonthDays → Bool
names_month_day d = is_some d.numbers || (is_counted d.from_end || is_some d.nearest)

-- ---- parts

-- days of the month in two parts or more: ` on the 1st and on the last day of the month`
unfoldable pub has_month_parts : MonthDays → Bool
has_month_parts d = (is_some d.numbers && (is_counted d.from_end || is_some d.nearest)) || (is_counted d.from_end && is_some d.nearest)

-- weekdays in two: ` on each Monday and on the first Tuesday of the month`
unfoldable pub has_week_parts : Weekdays → Bool
has_week_parts w = is_some w.each && has_nth w

-- days in parts that ` and on ` joins
unfoldable pub has_parts : Days → Bool
has_parts EveryDay = false
has_parts (OfMonth d) = has_month_parts d
has_parts (OfWeek w) = has_week_parts w
has_parts (Either d w) = (names_month_day d && names_weekday w) || (has_month_parts d || has_week_parts w)
has_parts (Both d w) = has_month_parts d || has_week_parts w

-- ---- both

-- one day of the month and one weekday: `Friday the 13th`
unfoldable pub is_dated_weekday : MonthDays → Weekdays → Bool
is_dated_weekday d w =
    (is_sole (only_piece d.numbers.pieces.items) && not (is_counted d.from_end || is_some d.nearest))
    && (is_sole (only_piece w.each.pieces.items) && not (has_nth w))

unfoldable pub dated_weekday : SummaryLanguage → ℕ → ℕ → List ℕ
dated_weekday l weekday day = term_text l On ++ (weekday_name l weekday ++ (term_text l DatedThe ++ ordinal l day))

unfoldable pub both_text : Style → MonthDays → Weekdays → List ℕ
both_text style d w =
    if is_dated_weekday d w
    then dated_weekday style.language (value_of (only_piece w.each.pieces.items)) (value_of (only_piece d.numbers.pieces.items))
    else month_days_text style d ++ only_text style w

unfoldable pub days_text : Style → Days → List ℕ
days_text style EveryDay = []
days_text style (OfMonth d) = month_days_text style d
days_text style (OfWeek w) = of_week_text style w
days_text style (Either d w) = month_days_text style d ++ weekdays_text style (names_month_day d) w
days_text style (Both d w) = both_text style d w
