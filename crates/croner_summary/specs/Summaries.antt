-- The dates and times that a summary says, and that they are the schedule.
use Rattle.std.specs.Prelude.{◌≡◌, Bool, ◌&&◌}
use Rattle.jiff_core.specs.Calendar.{days_in_month}
use Rattle.croner_base.specs.declared.time.civil.CivilDateTime.{CivilDateTime}
use Rattle.croner_pattern.specs.Meaning.{Meaning}
use Rattle.croner_pattern.specs.Schedule.{first_weekday, is_scheduled}
use Rattle.croner_summary.specs.declared.summary.Summary.{Summary}
use Rattle.croner_summary.specs.Says.{names, is_day, is_year}

-- a summary says a date and time: each part of it is named
abbrev pub says : Summary → CivilDateTime → Bool
says s c =
    names 0 59 s.seconds c.time.second && (names 0 59 s.minutes c.time.minute && (names 0 23 s.hours c.time.hour
    && (is_year s.years c.date.year && (names 1 12 s.months c.date.month
    && is_day s.days (days_in_month c.date.year c.date.month) (first_weekday c.date.year c.date.month) c.date.day))))

-- it says exactly what is scheduled
abbrev pub SaysTheSchedule : Summary → Meaning → Type 0
SaysTheSchedule s m = (c : CivilDateTime) → says s c ≡ is_scheduled m c
