use Rattle.std.proofs.Common.{ap, ◌∙◌}
use Rattle.croner_pattern.specs.Schedule.{is_year_matching}
use Rattle.croner_pattern.proofs.cursor.dates.in_rest_of_year.Goals as goal

pub returns : goal.returns
returns g c =
    let n = c.in_ok-year.ensures in
    let same = n.is in
    let named = ap (is_year_matching (g.P.PatternWords.meaning c.args.pattern.now)) same ∙ n.named in
    rw (same, c.in_ok-neighbour.ensures, c.month.ensures) at (c.in_months.ensures named)
