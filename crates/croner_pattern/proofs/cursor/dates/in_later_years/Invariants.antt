use Rattle.std.proofs.Common.{pos}
use Rattle.croner_base.specs.Civil.{day_of_date}
use Rattle.croner_pattern.specs.Private.Cursor.{first_year, last_year, IsOnTheWay, IsInYears}
use Rattle.croner_pattern.proofs.civil.Foremost.{Leads}
use Rattle.croner_pattern.proofs.civil.Ahead.{steps_left}
use Rattle.croner_pattern.proofs.cursor.dates.in_later_years.Given as goal

abbrev pub invariant-loop-year : goal.invariant-loop-year
invariant-loop-year g l = record {
  way : IsOnTheWay l.direction first_year last_year l.from;
  leads : Leads day_of_date l.direction (IsInYears (g.P.PatternWords.meaning l.pattern) l.direction (pos l.fn.year)) (IsInYears (g.P.PatternWords.meaning l.pattern) l.direction (pos l.from));
}

abbrev pub decreases-loop-year : goal.decreases-loop-year
decreases-loop-year g l = steps_left l.direction last_year l.from
