use Rattle.std.proofs.Common.{◌≡◌, arith}
use Rattle.croner_pattern.proofs.civil.MonthKinds.{kind_added, kind_left_out, all_month_kinds}
use Rattle.croner_pattern.proofs.cursor.kinds.month_kinds.Goals as goal
use Rattle.croner_pattern.proofs.cursor.kinds.month_kinds.Goals.{then-days_of_month-ne0, else-days_of_month-ne0}

pub loop-kind-preserved : goal.loop-kind-preserved
loop-kind-preserved g c =
    let m = g.P.PatternWords.meaning c.args.pattern.now in
    let mask = c.days_of_month.ensures in
    elim c.if-days_of_month-ne0.branch [
      | then-days_of_month-ne0 w ↦ rw w.kinds-is (kind_added m c.loop-kind.kind c.loop-kind.kinds c.days_of_month.result (omega arith) mask (omega arith) (omega arith) c.loop-kind.invariant)
      | else-days_of_month-ne0 w ↦ rw w.kinds-is (kind_left_out m c.loop-kind.kind c.loop-kind.kinds c.days_of_month.result mask (omega arith) c.loop-kind.invariant)
    ]

pub returns : goal.returns
returns g c =
    let all : c.loop-kind.kind ≡ 28 = omega arith in
    all_month_kinds (g.P.PatternWords.meaning c.args.pattern.now) c.loop-kind.kinds (rw all at c.loop-kind.invariant)
