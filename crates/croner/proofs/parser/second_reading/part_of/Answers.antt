use Rattle.std.proofs.Common.{ap, ◌∙◌, refl}
use Rattle.croner.specs.Private.parser.Places.{has_part}
use Rattle.croner.proofs.parser.PartPlaces.{part_with_sign, sign_short}
use Rattle.croner.proofs.parser.second_reading.part_of.Goals as goal

pub overflow_sub-start : goal.overflow_sub-start
overflow_sub-start c = sign_short c.args.field c.args.word.text.now c.without_sign-text.result.now c.without_sign-text.ensures

pub returns : goal.returns
returns c = λ h.
    part_with_sign c.part_from.result c.args.field c.args.word.text.now c.without_sign-text.result.now c.args.part c.args.word.start _ c.without_sign-text.ensures refl
    (c.part_from.ensures (ap (has_part c.args.part) c.without_sign-text.ensures ∙ h))
