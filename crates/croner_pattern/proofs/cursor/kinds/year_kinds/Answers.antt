use Rattle.croner_pattern.proofs.civil.MonthKinds.{month_added, all_year_kinds}
use Rattle.croner_pattern.proofs.cursor.kinds.year_kinds.Goals as goal

pub loop-month-preserved : goal.loop-month-preserved
loop-month-preserved g c =
    let m = g.P.PatternWords.meaning c.args.pattern.now in
    month_added m c.loop-month.from c.in-Some.month c.loop-month.kinds c.open_years-kinds.result c.loop-month.invariant c.in-Some.ensures
    (c.open_years-kinds.ensures m c.month_kinds-months.ensures)

pub returns : goal.returns
returns g c = all_year_kinds (g.P.PatternWords.meaning c.args.pattern.now) c.loop-month.from c.loop-month.kinds c.loop-month.invariant c.in_default.ensures
