use Rattle.std.proofs.Common.{bit_and, ap, ◌∙◌, arith}
use Rattle.croner_pattern.specs.Private.DayBits.{has_bit}
use Rattle.croner_pattern.proofs.days.DayBits.{has-cut}
use Rattle.croner_pattern.proofs.pattern.mask.weekdays.marked_weekdays.Goals as goal

pub returns-clause-shows : goal.returns-clause-shows
returns-clause-shows c weekday low =
    ap (λ n. has_bit (bit_and c.low_word.result n) weekday) c.from.ensures
    ∙ has-cut c.low_word.result 7 weekday low
    ∙ c.low_word.ensures weekday (omega arith)
