-- The terms of Swedish, its units, numbers, weekdays and months. Letters past ASCII are written as the bytes of their UTF-8.
use Rattle.std.specs.Prelude.{ℕ, ◌/◌, ◌%◌, Bool, true, false, ◌||◌, ◌==◌, List, [], ◌++◌, codes, decimal, if◌then◌else◌}
use Rattle.croner_words.specs.Swedish.{a_with_ring, a_with_dots, o_with_dots}
use Rattle.croner_summary.specs.declared.language.Term.{Term}
use Rattle.croner_summary.specs.declared.language.Term.TheVariants.{To, And, More, EachOne, FromValue, Each, EachFrom, Plural, From, AtTime, At, AndAt, Of, FromTime, FromMinute, AtSecond, On, AndOn, The, FromThe, ToThe, DatedThe, ButOnly, OnlyEach, OnlyEnd, NthEnd, FirstTime, SecondTime, ThirdTime, FourthTime, FifthTime, LastTime, OfEachWeekday, OfTheMonth, TheLastDay, TheLastWorkingDay, TheFirstWorkingDay, Nearest, HavingOne, HavingOneEnd, HavingDays, InMonths, AndInMonths, InNthYears, InYears, AndInYears, NoSecond, NoMinute, NoHour, NoMonth, NoYear, NoMonthDay, NoWeekday, NoDay}
use Rattle.croner_summary.specs.declared.language.TimeUnit.{TimeUnit}
use Rattle.croner_summary.specs.declared.language.TimeUnit.TheVariants.{Second, Minute, Hour, Day, Month, Year}

-- from, first, month and is
abbrev pub from : List ℕ
from = codes "fr" ++ (a_with_ring ++ codes "n")

abbrev pub first : List ℕ
first = codes "f" ++ (o_with_dots ++ codes "rsta")

abbrev pub month : List ℕ
month = codes "m" ++ (a_with_ring ++ codes "nad")

abbrev pub is : List ℕ
is = a_with_dots ++ codes "r"

-- a day from Monday to Friday, as `the weekday`
abbrev pub working_day : List ℕ
working_day = codes "vardagen (m" ++ (a_with_ring ++ codes "ndag till fredag)")

abbrev pub of_the_month : List ℕ
of_the_month = codes " i " ++ (month ++ codes "en")

-- that something of the common gender isn't named
abbrev pub never : List ℕ → List ℕ
never named = codes "Aldrig: ingen " ++ (named ++ (codes " " ++ (is ++ codes " angiven")))

abbrev pub swedish_term : Term → List ℕ
swedish_term To = codes " till "
swedish_term And = codes " och "
swedish_term More = codes " till"
swedish_term EachOne = codes "varje"
swedish_term FromValue = from ++ codes " "
swedish_term Each = codes "varje "
swedish_term EachFrom = codes "varje dag " ++ (from ++ codes " ")
swedish_term Plural = []
swedish_term From = codes " " ++ (from ++ codes " ")
swedish_term AtTime = codes "Kl. "
swedish_term At = codes "Vid "
swedish_term AndAt = codes ", och vid "
swedish_term Of = codes " i "
swedish_term FromTime = codes " " ++ (from ++ codes " kl. ")
swedish_term FromMinute = codes " " ++ (from ++ codes " minut ")
swedish_term AtSecond = codes ", vid sekund "
swedish_term On = codes " "
swedish_term AndOn = codes " och "
swedish_term The = codes "den "
swedish_term FromThe = codes " " ++ (from ++ codes " den ")
swedish_term ToThe = codes " till den "
swedish_term DatedThe = codes " den "
swedish_term ButOnly = codes ", men bara"
swedish_term OnlyEach = codes "p" ++ (a_with_ring ++ codes " ")
swedish_term OnlyEnd = codes "ar"
swedish_term NthEnd = codes "en"
swedish_term FirstTime = codes "den " ++ (first ++ codes " ")
swedish_term SecondTime = codes "den andra "
swedish_term ThirdTime = codes "den tredje "
swedish_term FourthTime = codes "den fj" ++ (a_with_dots ++ codes "rde ")
swedish_term FifthTime = codes "den femte "
swedish_term LastTime = codes "den sista "
swedish_term OfEachWeekday = codes "av varje veckodag, "
swedish_term OfTheMonth = of_the_month
swedish_term TheLastDay = codes "den sista dagen" ++ of_the_month
swedish_term TheLastWorkingDay = codes "den sista " ++ (working_day ++ of_the_month)
swedish_term TheFirstWorkingDay = codes "den " ++ (first ++ (codes " " ++ (working_day ++ of_the_month)))
swedish_term Nearest = working_day ++ (codes " n" ++ (a_with_dots ++ codes "rmast "))
swedish_term HavingOne = codes " (i " ++ (month ++ codes "er som har en ")
swedish_term HavingOneEnd = codes " dag)"
swedish_term HavingDays = codes " (i " ++ (month ++ codes "er som har dagen)")
swedish_term InMonths = codes " i "
swedish_term AndInMonths = codes " och i "
swedish_term InNthYears = codes ", "
swedish_term InYears = codes ", " ++ (a_with_ring ++ codes "r ")
swedish_term AndInYears = codes " och " ++ (a_with_ring ++ codes "r ")
swedish_term NoSecond = never (codes "sekund")
swedish_term NoMinute = never (codes "minut")
swedish_term NoHour = never (codes "timme")
swedish_term NoMonth = never month
swedish_term NoYear = codes "Aldrig: inget " ++ (a_with_ring ++ (codes "r " ++ (is ++ codes " angivet")))
swedish_term NoMonthDay = never (codes "dag" ++ of_the_month)
swedish_term NoWeekday = never (codes "veckodag")
swedish_term NoDay = never (codes "dag")

abbrev pub swedish_unit : TimeUnit → List ℕ
swedish_unit Second = codes "sekund"
swedish_unit Minute = codes "minut"
swedish_unit Hour = codes "timme"
swedish_unit Day = codes "dag"
swedish_unit Month = month
swedish_unit Year = a_with_ring ++ codes "r"

-- the end of an ordinal: 1:a, 2:a, 3:e, 11:e, 12:e, 21:a
abbrev pub swedish_ordinal_end : ℕ → List ℕ
swedish_ordinal_end n =
    if n / 10 % 10 == 1 then codes ":e" else (if n % 10 == 1 || n % 10 == 2 then codes ":a" else codes ":e")

abbrev pub swedish_weekday : ℕ → List ℕ
swedish_weekday n =
    if n == 0 then codes "s" ++ (o_with_dots ++ codes "ndag") else (if n == 1 then codes "m" ++ (a_with_ring ++ codes "ndag")
    else (if n == 2 then codes "tisdag" else (if n == 3 then codes "onsdag" else (if n == 4 then codes "torsdag"
    else (if n == 5 then codes "fredag" else codes "l" ++ (o_with_dots ++ codes "rdag"))))))

abbrev pub swedish_month : ℕ → List ℕ
swedish_month n =
    if n == 1 then codes "januari" else (if n == 2 then codes "februari" else (if n == 3 then codes "mars" else (if n == 4 then codes "april"
    else (if n == 5 then codes "maj" else (if n == 6 then codes "juni" else (if n == 7 then codes "juli" else (if n == 8 then codes "augusti"
    else (if n == 9 then codes "september" else (if n == 10 then codes "oktober" else (if n == 11 then codes "november" else codes "december"))))))))))

-- what a step begins with, at the head of a text, of years, or else: `Varje `, `varannan `, `vart `
abbrev pub swedish_step : Bool → Bool → ℕ → List ℕ
swedish_step is_head is_year n =
    if n == 1 then (if is_head then codes "Varje " else codes "varje ")
    else (if n == 2 then (if is_year then codes "vartannat " else (if is_head then codes "Varannan " else codes "varannan "))
    else (if is_year then codes "vart " else (if is_head then codes "Var " else codes "var ")))

-- the number of a step, from 3 on: `15:e `
unfoldable pub swedish_number : ℕ → List ℕ
swedish_number n = if n == 1 || n == 2 then [] else decimal n ++ (swedish_ordinal_end n ++ codes " ")

-- every nth, before what it is: `var 15:e `, `varannan `
unfoldable pub swedish_nth : Bool → Bool → ℕ → List ℕ
swedish_nth is_head is_year n = swedish_step is_head is_year n ++ swedish_number n

-- years are of the other gender
abbrev pub is_year_unit : TimeUnit → Bool
is_year_unit Year = true
is_year_unit unit = false

-- every so many: `Var 15:e minut`
unfoldable pub swedish_every : ℕ → TimeUnit → List ℕ
swedish_every n unit = swedish_nth true (is_year_unit unit) n ++ swedish_unit unit
