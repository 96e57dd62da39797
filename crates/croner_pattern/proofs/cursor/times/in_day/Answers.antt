use Rattle.croner_pattern.specs.Private.Cursor.{IsMatchingTime}
use Rattle.croner_pattern.proofs.civil.Foremost.{in_low, in_middle, in_high}
use Rattle.croner_pattern.proofs.civil.TimeSearch.{times, time_start}
use Rattle.croner_pattern.proofs.cursor.times.in_day.Goals as goal

pub returns-in-Some : goal.returns-in-Some
returns-in-Some g c =
    let start = time_start c.args.direction c.args.from c.hour-hour.ensures c.minute-minute.ensures c.second.ensures in
    in_low (times c.args.direction) (IsMatchingTime (g.P.PatternWords.meaning c.args.pattern.now)) start c.in-Some.time c.in-Some.ensures

pub returns-in-Some-in_later_minutes : goal.returns-in-Some-in_later_minutes
returns-in-Some-in_later_minutes g c =
    let start = time_start c.args.direction c.args.from c.hour-hour.ensures c.minute-minute.ensures c.second.ensures in
    in_middle (times c.args.direction) (IsMatchingTime (g.P.PatternWords.meaning c.args.pattern.now)) start c.in-Some-in_later_minutes.time c.in_default.ensures c.in-Some-in_later_minutes.ensures

pub returns : goal.returns
returns g c =
    let start = time_start c.args.direction c.args.from c.hour-hour.ensures c.minute-minute.ensures c.second.ensures in
    in_high (times c.args.direction) (IsMatchingTime (g.P.PatternWords.meaning c.args.pattern.now)) start c.in_later_hours.result c.in_default.ensures c.in_default-in_later_minutes.ensures c.in_later_hours.ensures
