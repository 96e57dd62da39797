use Rattle.std.proofs.Common.{◌+◌, ◌∙◌, arith}
use Rattle.croner_pattern.specs.Days.{weekday_of}
use Rattle.croner_pattern.proofs.pattern.mask.weekdays.days_marked.Goals as goal

pub returns : goal.returns
returns g c place low =
    c.days_of_weekdays.ensures place low
    ∙ c.weekdays.ensures.shows (weekday_of c.args.first (place + 1)) (omega arith)
