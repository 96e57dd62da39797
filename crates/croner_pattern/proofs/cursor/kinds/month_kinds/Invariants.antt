use Rattle.croner_pattern.proofs.civil.MonthKinds.{MonthKindsBelow}
use Rattle.croner_pattern.proofs.cursor.kinds.month_kinds.Given as goal

abbrev pub invariant-loop-kind : goal.invariant-loop-kind
invariant-loop-kind g l = MonthKindsBelow (g.P.PatternWords.meaning l.pattern) l.kind l.kinds
