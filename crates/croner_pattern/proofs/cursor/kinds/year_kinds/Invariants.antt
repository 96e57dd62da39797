use Rattle.std.proofs.Common.{◌-◌}
use Rattle.croner_pattern.proofs.civil.MonthKinds.{YearKindsBelow}
use Rattle.croner_pattern.proofs.cursor.kinds.year_kinds.Given as goal

abbrev pub invariant-loop-month : goal.invariant-loop-month
invariant-loop-month g l = YearKindsBelow (g.P.PatternWords.meaning l.pattern) l.from l.kinds

abbrev pub decreases-loop-month : goal.decreases-loop-month
decreases-loop-month g l = 13 - l.from
