use Rattle.std.proofs.Common.{◌∙◌, arith}
use Rattle.croner_pattern.proofs.days.DayBits.{has-cut}
use Rattle.croner.proofs.compact.parts.hours_of.Goals as goal

pub returns : goal.returns
returns c v low = has-cut c.low_word.result 24 v low ∙ c.low_word.ensures v (omega arith)
