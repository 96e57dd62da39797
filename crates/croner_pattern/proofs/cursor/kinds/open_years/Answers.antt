use Rattle.jiff_core.specs.Calendar.{is_leap_year, days_in_month}
use Rattle.croner_pattern.specs.Schedule.{first_weekday}
use Rattle.croner_pattern.specs.Private.Cursor.{HasOpenDay}
use Rattle.croner_pattern.proofs.civil.MonthKinds.{open_kind}
use Rattle.croner_pattern.proofs.civil.Weekdays.{weekday_bound}
use Rattle.croner_pattern.proofs.cursor.kinds.open_years.Goals as goal

pub returns : goal.returns
returns c = λ m kinds year.
    open_kind (HasOpenDay m (days_in_month year c.args.month) (first_weekday year c.args.month)) (is_leap_year year)
    c.open_beginnings.result c.open_beginnings-2.result (first_weekday year 1)
    c.open_beginnings.ensures.bound c.open_beginnings-2.ensures.bound (weekday_bound year 1)
    (c.open_beginnings.ensures.value m kinds year) (c.open_beginnings-2.ensures.value m kinds year)
