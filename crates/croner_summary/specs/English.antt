-- The terms of English, its units, numbers, weekdays and months.
use Rattle.std.specs.Prelude.{ℕ, ◌/◌, ◌%◌, ◌==◌, List, [], ◌++◌, codes, decimal, if◌then◌else◌}
use Rattle.croner_summary.specs.declared.language.Term.{Term}
use Rattle.croner_summary.specs.declared.language.Term.TheVariants.{To, And, More, EachOne, FromValue, Each, EachFrom, Plural, From, AtTime, At, AndAt, Of, FromTime, FromMinute, AtSecond, On, AndOn, The, FromThe, ToThe, DatedThe, ButOnly, OnlyEach, OnlyEnd, NthEnd, FirstTime, SecondTime, ThirdTime, FourthTime, FifthTime, LastTime, OfEachWeekday, OfTheMonth, TheLastDay, TheLastWorkingDay, TheFirstWorkingDay, Nearest, HavingOne, HavingOneEnd, HavingDays, InMonths, AndInMonths, InNthYears, InYears, AndInYears, NoSecond, NoMinute, NoHour, NoMonth, NoYear, NoMonthDay, NoWeekday, NoDay}
use Rattle.croner_summary.specs.declared.language.TimeUnit.{TimeUnit}
use Rattle.croner_summary.specs.declared.language.TimeUnit.TheVariants.{Second, Minute, Hour, Day, Month, Year}

abbrev pub english_term : Term → List ℕ
english_term To = codes " to "
english_term And = codes " and "
english_term More = codes " more"
english_term EachOne = codes "each"
english_term FromValue = codes "from "
english_term Each = codes "each "
english_term EachFrom = codes "each day from "
english_term Plural = codes "s"
english_term From = codes " from "
english_term AtTime = codes "At "
english_term At = codes "At "
english_term AndAt = codes ", and at "
english_term Of = codes " of "
english_term FromTime = codes " from "
english_term FromMinute = codes " from minute "
english_term AtSecond = codes ", at second "
english_term On = codes " on "
english_term AndOn = codes " and on "
english_term The = codes "the "
english_term FromThe = codes " from the "
english_term ToThe = codes " to the "
english_term DatedThe = codes " the "
english_term ButOnly = codes ", but only"
english_term OnlyEach = []
english_term OnlyEnd = codes "s"
english_term NthEnd = []
english_term FirstTime = codes "the first "
english_term SecondTime = codes "the second "
english_term ThirdTime = codes "the third "
english_term FourthTime = codes "the fourth "
english_term FifthTime = codes "the fifth "
english_term LastTime = codes "the last "
english_term OfEachWeekday = codes "of each weekday, "
english_term OfTheMonth = codes " of the month"
english_term TheLastDay = codes "the last day of the month"
english_term TheLastWorkingDay = codes "the last weekday (Monday to Friday) of the month"
english_term TheFirstWorkingDay = codes "the first weekday (Monday to Friday) of the month"
english_term Nearest = codes "the weekday (Monday to Friday) nearest "
english_term HavingOne = codes " (in months that have a "
english_term HavingOneEnd = codes ")"
english_term HavingDays = codes " (in months that have the day)"
english_term InMonths = codes " in "
english_term AndInMonths = codes " and in "
english_term InNthYears = codes ", in "
english_term InYears = codes ", in "
english_term AndInYears = codes " and in "
english_term NoSecond = codes "Never: no second is named"
english_term NoMinute = codes "Never: no minute is named"
english_term NoHour = codes "Never: no hour is named"
english_term NoMonth = codes "Never: no month is named"
english_term NoYear = codes "Never: no year is named"
english_term NoMonthDay = codes "Never: no day of the month is named"
english_term NoWeekday = codes "Never: no weekday is named"
english_term NoDay = codes "Never: no day is named"

abbrev pub english_unit : TimeUnit → List ℕ
english_unit Second = codes "second"
english_unit Minute = codes "minute"
english_unit Hour = codes "hour"
english_unit Day = codes "day"
english_unit Month = codes "month"
english_unit Year = codes "year"

-- the end of an ordinal: 1st, 2nd, 3rd, 4th, 11th, 21st
abbrev pub english_ordinal_end : ℕ → List ℕ
english_ordinal_end n =
    if n / 10 % 10 == 1 then codes "th"
    else (if n % 10 == 1 then codes "st" else (if n % 10 == 2 then codes "nd" else (if n % 10 == 3 then codes "rd" else codes "th")))

abbrev pub english_weekday : ℕ → List ℕ
english_weekday n =
    if n == 0 then codes "Sunday" else (if n == 1 then codes "Monday" else (if n == 2 then codes "Tuesday" else (if n == 3 then codes "Wednesday"
    else (if n == 4 then codes "Thursday" else (if n == 5 then codes "Friday" else codes "Saturday")))))

abbrev pub english_month : ℕ → List ℕ
english_month n =
    if n == 1 then codes "January" else (if n == 2 then codes "February" else (if n == 3 then codes "March" else (if n == 4 then codes "April"
    else (if n == 5 then codes "May" else (if n == 6 then codes "June" else (if n == 7 then codes "July" else (if n == 8 then codes "August"
    else (if n == 9 then codes "September" else (if n == 10 then codes "October" else (if n == 11 then codes "November" else codes "December"))))))))))

-- so many units: `minute`, `5 minutes`
unfoldable pub english_units : ℕ → TimeUnit → List ℕ
english_units n unit = if n == 1 then english_unit unit else decimal n ++ (codes " " ++ (english_unit unit ++ codes "s"))

-- every so many: `Every 5 minutes`
unfoldable pub english_every : ℕ → TimeUnit → List ℕ
english_every n unit = codes "Every " ++ english_units n unit

-- every nth, before what it is: `every 5th `
unfoldable pub english_nth : ℕ → List ℕ
english_nth n = codes "every " ++ (decimal n ++ (english_ordinal_end n ++ codes " "))
