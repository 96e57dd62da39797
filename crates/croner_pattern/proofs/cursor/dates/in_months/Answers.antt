use Rattle.std.proofs.Common.{None, Some, pos}
use Rattle.croner_pattern.proofs.civil.DateSearch.{months}
use Rattle.croner_pattern.proofs.civil.Foremost.{found, missed, ended, spent}
use Rattle.croner_pattern.proofs.civil.Ahead.{neighbour-way}
use Rattle.croner_pattern.proofs.cursor.dates.in_months.Goals as goal

pub loop-month-init : goal.loop-month-init
loop-month-init g c = record { way = c.requires.month_in; leads = λ year r f. f }

pub returns-in-Some-in_month : goal.returns-in-Some-in_month
returns-in-Some-in_month g c = λ year.
    let near = c.in-Some.ensures in
    c.loop-month.invariant.leads year (Some c.in-Some-in_month.found)
    (found (months (g.P.PatternWords.meaning c.args.pattern.now) c.args.direction (pos c.args.year)) (pos c.loop-month.from) c.in-Some.month c.in-Some-in_month.found near
    (c.in-Some-in_month.ensures year near.is.plain))

pub returns-in_err-from : goal.returns-in_err-from
returns-in_err-from g c = λ year.
    let near = c.in-Some.ensures in
    rw c.from_residual.ensures
    (c.loop-month.invariant.leads year None
    (spent (months (g.P.PatternWords.meaning c.args.pattern.now) c.args.direction (pos c.args.year)) (pos c.loop-month.from) c.in-Some.month near
    (c.in_default-in_month.ensures year near.is.plain) c.in_err-from.ensures))

pub loop-month-preserved : goal.loop-month-preserved
loop-month-preserved g c =
    let near = c.in-Some.ensures in
    record {
      way = neighbour-way c.args.direction 1 12 c.in-Some.month c.in_ok-from.from near.is.low near.is.high c.in_ok-from.ensures;
      leads = λ year r f.
          c.loop-month.invariant.leads year r
          (missed (months (g.P.PatternWords.meaning c.args.pattern.now) c.args.direction (pos c.args.year)) (pos c.loop-month.from) (pos c.in_ok-from.from) c.in-Some.month near
          (c.in_default-in_month.ensures year near.is.plain) c.in_ok-from.ensures r f);
    }

pub returns : goal.returns
returns g c = λ year.
    c.loop-month.invariant.leads year None
    (ended (months (g.P.PatternWords.meaning c.args.pattern.now) c.args.direction (pos c.args.year)) (pos c.loop-month.from) c.in_default.ensures)
