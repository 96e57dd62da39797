use Rattle.std.proofs.Common.{pos}
use Rattle.croner_pattern.proofs.civil.DateSearch.{plain_year, years}
use Rattle.croner_pattern.proofs.civil.Foremost.{found, missed, ended}
use Rattle.croner_pattern.proofs.cursor.dates.in_years.Goals as goal

pub returns-in_err-year : goal.returns-in_err-year
returns-in_err-year g c =
    rw c.from_residual.ensures (ended (years (g.P.PatternWords.meaning c.args.pattern.now) c.args.direction) (pos c.args.year) c.in_err-year.ensures)

pub returns-in-Some : goal.returns-in-Some
returns-in-Some g c =
    let m = g.P.PatternWords.meaning c.args.pattern.now in
    let near = c.in_ok-year.ensures in
    found (years m c.args.direction) (pos c.args.year) c.in_ok-year.year c.in-Some.found near (c.in-Some.ensures (plain_year m c.in_ok-year.year near.is))

pub returns : goal.returns
returns g c =
    let m = g.P.PatternWords.meaning c.args.pattern.now in
    let dir = c.args.direction in
    let near = c.in_ok-year.ensures in
    missed (years m dir) (pos c.args.year) (pos c.in_ok-neighbour.field-0) c.in_ok-year.year near (c.in_default.ensures (plain_year m c.in_ok-year.year near.is))
    c.in_ok-neighbour.ensures c.in_later_years.result c.in_later_years.ensures
