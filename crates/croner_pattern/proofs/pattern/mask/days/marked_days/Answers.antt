use Rattle.std.proofs.Common.{◌≡◌, ◌+◌, ◌/◌, ◌^◌, ap, ◌∙◌, arith}
use Rattle.croner_base.specs.Field.{is_marked}
use Rattle.croner_pattern.proofs.days.DayBits.{has-cut, has-shr}
use Rattle.croner_pattern.proofs.pattern.mask.days.marked_days.Goals as goal

pub returns : goal.returns
returns c place low =
    let next : 1 + place ≡ place + 1 = omega arith in
    has-cut (c.low_word.result / 2 ^ 1) 31 place low
    ∙ has-shr c.low_word.result 1 place
    ∙ c.low_word.ensures (1 + place) (omega arith)
    ∙ ap (is_marked c.args.bit c.args.days.now) next
