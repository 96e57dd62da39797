use Rattle.std.proofs.Common.{◌∙◌, arith}
use Rattle.std.proofs.lemmas.Int.{ints}
use Rattle.croner_base.proofs.calendar.JiffSeconds.{day_before, day_after}
use Rattle.croner_base.proofs.calendar.CivilSeconds.{day_of_parts, same_day}
use Rattle.croner_base.proofs.time.table.civil.date_of_day.Goals as goal

pub returns-then-day-lt-FIRST_DAY_NUMBER : goal.returns-then-day-lt-FIRST_DAY_NUMBER
returns-then-day-lt-FIRST_DAY_NUMBER c =
    day_of_parts c.from_parts_unchecked.result _ _ _ _ c.from_parts_unchecked.ensures day_before
    ∙ omega (arith, ints)

pub returns-then-day-gt-LAST_DAY_NUMBER : goal.returns-then-day-gt-LAST_DAY_NUMBER
returns-then-day-gt-LAST_DAY_NUMBER c =
    let r = c.from_parts_unchecked-then-day-gt-LAST_DAY_NUMBER in
    day_of_parts r.result _ _ _ _ r.ensures day_after ∙ omega (arith, ints)

pub returns-else-day-gt-LAST_DAY_NUMBER : goal.returns-else-day-gt-LAST_DAY_NUMBER
returns-else-day-gt-LAST_DAY_NUMBER c =
    let r = c.from_parts_unchecked-else-day-gt-LAST_DAY_NUMBER in
    let d = c.from_days_since_min-date.result in
    same_day d r.result (r.ensures.year_is ∙ omega (arith, ints)) (r.ensures.month_is ∙ omega (arith, ints)) (r.ensures.day_is ∙ omega (arith, ints))
    ∙ omega (arith, ints, c.from_days_since_min-date.ensures)
