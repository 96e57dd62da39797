use Rattle.std.proofs.Common.{◌≡◌, true, pos}
use Rattle.croner_base.specs.Civil.{day_of_date}
use Rattle.croner_pattern.specs.Schedule.{is_year_matching}
use Rattle.croner_pattern.specs.Private.Cursor.{IsOnTheWay, IsInMonths}
use Rattle.croner_pattern.proofs.civil.Foremost.{Leads}
use Rattle.croner_pattern.proofs.civil.Ahead.{steps_left}
use Rattle.croner_pattern.proofs.cursor.dates.in_months.Given as goal

abbrev pub invariant-loop-month : goal.invariant-loop-month
invariant-loop-month g l = record {
  way : IsOnTheWay l.direction 1 12 l.from;
  leads : is_year_matching (g.P.PatternWords.meaning l.pattern) (pos l.year) ≡ true → Leads day_of_date l.direction (IsInMonths (g.P.PatternWords.meaning l.pattern) l.direction (pos l.year) (pos l.fn.month)) (IsInMonths (g.P.PatternWords.meaning l.pattern) l.direction (pos l.year) (pos l.from));
}

abbrev pub decreases-loop-month : goal.decreases-loop-month
decreases-loop-month g l = steps_left l.direction 12 l.from
