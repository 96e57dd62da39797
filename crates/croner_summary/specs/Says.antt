-- What a summary says: which values a phrase names, which days are named, and which dates and times these are.
use Rattle.std.specs.Prelude.{ℕ, ◌+◌, ◌-◌, ◌%◌, nat_lt, nat_le, Bool, true, false, ◌&&◌, ◌||◌, ◌==◌, List, ℤ, pos, int_le, unsigned_abs, if◌then◌else◌}
use Rattle.std.specs.List.{list_any}
use Rattle.croner_base.specs.Limits.{first_year, last_year}
use Rattle.croner_pattern.specs.Days.{days_of, weekday_of, occurrence, is_last_day, is_last_weekday, is_last_working, is_nearest}
use Rattle.croner_summary.specs.declared.days.Days.{Days}
use Rattle.croner_summary.specs.declared.days.Days.TheVariants.{Every as EveryDay, OfMonth, OfWeek, Either, Both}
use Rattle.croner_summary.specs.declared.days.FromEnd.{FromEnd}
use Rattle.croner_summary.specs.declared.days.FromEnd.TheVariants.{Neither, LastDay, LastWorkingDay}
use Rattle.croner_summary.specs.declared.days.MonthDays.{MonthDays}
use Rattle.croner_summary.specs.declared.days.Weekdays.{Weekdays}
use Rattle.croner_summary.specs.declared.phrase.Phrase.{Phrase}
use Rattle.croner_summary.specs.declared.phrase.Piece.{Piece}
use Rattle.croner_summary.specs.declared.phrase.Piece.TheVariants.{Every, EveryNth, One, Range, RangeNth}

-- the value is one of a field whose values go from the least to the greatest
abbrev pub is_within : ℕ → ℕ → ℕ → Bool
is_within least greatest value = nat_le least value && nat_le value greatest

-- the distance is a whole number of steps
abbrev pub is_stepwise : ℕ → ℕ → Bool
is_stepwise step distance = nat_lt 0 step && distance % step == 0

-- a piece names a value of the field
abbrev pub is_in : ℕ → ℕ → Piece → ℕ → Bool
is_in least greatest Every value = true
is_in least greatest (EveryNth n) value = is_stepwise n ((greatest + 1) - least) && is_stepwise n (value - least)
is_in least greatest (One only) value = value == only
is_in least greatest (Range first last) value = is_within first last value
is_in least greatest (RangeNth first last n) value = is_within first last value && is_stepwise n (value - first)

-- one of the pieces names the value
abbrev pub is_in_some : ℕ → ℕ → List Piece → ℕ → Bool
is_in_some least greatest pieces value = list_any (λ piece. is_in least greatest piece value) pieces

-- a phrase names a value of the field: one of its pieces does
abbrev pub names : ℕ → ℕ → Phrase → ℕ → Bool
names least greatest phrase value = is_within least greatest value && is_in_some least greatest phrase.pieces.items value

-- the day is the one that is counted from the end of a month of this length, whose first day has this weekday
abbrev pub is_from_end : FromEnd → ℕ → ℕ → ℕ → Bool
is_from_end Neither len first day = false
is_from_end LastDay len first day = is_last_day len day
is_from_end LastWorkingDay len first day = is_last_working len first day

-- the day is the nearest Monday-to-Friday day of one that the phrase names
abbrev pub is_near : Phrase → ℕ → ℕ → ℕ → Bool
is_near phrase len first day = list_any (λ target. names 1 31 phrase target && is_nearest len first target day) (days_of len)

-- a day is named by its number
abbrev pub is_month_day : MonthDays → ℕ → ℕ → ℕ → Bool
is_month_day d len first day =
    names 1 31 d.numbers day || (is_from_end d.from_end len first day || is_near d.nearest len first day)

-- the phrase of the weekdays that come for the nth time in a month, and whether it names one
abbrev pub is_nth : Weekdays → ℕ → ℕ → Bool
is_nth w n weekday =
    if n == 1 then names 0 6 w.first weekday
    else (if n == 2 then names 0 6 w.second weekday
    else (if n == 3 then names 0 6 w.third weekday
    else (if n == 4 then names 0 6 w.fourth weekday
    else (if n == 5 then names 0 6 w.fifth weekday else false))))

-- a day is named by its weekday
abbrev pub is_week_day : Weekdays → ℕ → ℕ → ℕ → Bool
is_week_day w len first day =
    names 0 6 w.each (weekday_of first day) || (is_nth w (occurrence first day) (weekday_of first day)
    || (names 0 6 w.last (weekday_of first day) && is_last_weekday len first day))

-- a day is named
abbrev pub is_day : Days → ℕ → ℕ → ℕ → Bool
is_day EveryDay len first day = true
is_day (OfMonth d) len first day = is_month_day d len first day
is_day (OfWeek w) len first day = is_week_day w len first day
is_day (Either d w) len first day = is_month_day d len first day || is_week_day w len first day
is_day (Both d w) len first day = is_month_day d len first day && is_week_day w len first day

-- a year is named
abbrev pub is_year : Phrase → ℤ → Bool
is_year phrase year =
    (int_le (pos first_year) year && int_le year (pos last_year)) && names first_year last_year phrase (unsigned_abs year)
