use Rattle.std.proofs.Common.{◌∙◌, ap}
use Rattle.croner.specs.parser.Faults.{from_illegal}
use Rattle.croner.proofs.parser.LegalWords.{illegal_from, rest_short}
use Rattle.croner.proofs.parser.second_reading.illegal_at.Goals as goal

pub overflow_sub-result : goal.overflow_sub-result
overflow_sub-result c = rest_short c.args.field c.args.raised.now c.from_illegal.result.now (c.from_illegal.ensures ∙ ap (from_illegal c.args.field) c.without_sign.ensures)

pub returns : goal.returns
returns c =
    illegal_from c.args.field c.args.word.now c.args.raised.now c.from_illegal.result.now c.requires (c.from_illegal.ensures ∙ ap (from_illegal c.args.field) c.without_sign.ensures) c.from_illegal.utf8
