-- When the parts of the days name exactly what the two day fields of a pattern name. Private contracts alone cite these definitions.
use Rattle.std.specs.Prelude.{◌≡◌, ℕ, ◌≤◌, ◌<◌, true, ◌&&◌, ◌||◌}
use Rattle.croner_base.specs.Field.{Field}
use Rattle.croner_pattern.specs.Days.{is_last_day, is_last_working}
use Rattle.croner_pattern.specs.Meaning.{Meaning}
use Rattle.croner_pattern.specs.Schedule.{is_plain, is_day_side, is_weekday_side, is_day_matching, names_last_day, names_last_working_day}
use Rattle.croner_summary.specs.declared.days.Days.{Days}
use Rattle.croner_summary.specs.declared.days.FromEnd.{FromEnd}
use Rattle.croner_summary.specs.declared.days.MonthDays.{MonthDays}
use Rattle.croner_summary.specs.declared.days.Weekdays.{Weekdays}
use Rattle.croner_summary.specs.Says.{is_from_end, is_month_day, is_week_day, is_day}

-- the day from the end is the one that the field's features name
abbrev pub IsFromEnd : Field → FromEnd → Type 0
IsFromEnd f e =
    (len first day : ℕ) → is_from_end e len first day
    ≡ ((names_last_day f && is_last_day len day) || (names_last_working_day f && is_last_working len first day))

-- in a month of at most 31 days, the parts name the days that the field names
abbrev pub AreMonthDays : Field → MonthDays → Type 0
AreMonthDays f d =
    (len first day : ℕ) → len ≤ 31 → 1 ≤ day → day ≤ 31 → is_month_day d len first day ≡ is_day_side f len first day

-- and the days whose weekdays the field names
abbrev pub AreWeekdays : Field → Weekdays → Type 0
AreWeekdays f w =
    (len first day : ℕ) → first < 7 → 1 ≤ day → day ≤ 31 → is_week_day w len first day ≡ is_weekday_side f len first day

-- each weekday is plain
abbrev pub HasAllWeek : Field → Type 0
HasAllWeek f = (weekday : ℕ) → weekday < 7 → is_plain f weekday ≡ true

-- the days of a month that fit a pattern
abbrev pub AreDays : Meaning → Days → Type 0
AreDays m days =
    (len first day : ℕ) → len ≤ 31 → first < 7 → 1 ≤ day → day ≤ 31 → is_day days len first day ≡ is_day_matching m len first day
