use Rattle.croner_pattern.proofs.civil.DateSearch.{day_matches}
use Rattle.croner_pattern.proofs.cursor.matches_date.Goals as goal

pub returns : goal.returns
returns g c = day_matches (g.P.PatternWords.meaning c.args.pattern.now) c.args.date c.month_days.result c.has_day.result c.month_days.ensures c.has_day.ensures
