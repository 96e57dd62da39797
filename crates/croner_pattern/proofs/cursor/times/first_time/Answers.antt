use Rattle.croner_pattern.proofs.civil.TimeSearch.{first_in_day}
use Rattle.croner_pattern.proofs.cursor.times.first_time.Goals as goal

pub returns : goal.returns
returns g c =
    first_in_day (g.P.PatternWords.meaning c.args.pattern.now) c.args.direction _ _ _ c.from_parts_unchecked.result c.from_parts_unchecked.ensures c.in_ok-hour.ensures c.in_ok-minute.ensures c.in_ok-second.ensures
