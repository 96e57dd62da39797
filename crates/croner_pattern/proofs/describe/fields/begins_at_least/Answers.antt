use Rattle.std.proofs.Common.{◌∙◌, ap, sym}
use Rattle.croner_pattern.proofs.descriptions.PlainValues.{begins_at_least, begins_with_none}
use Rattle.croner_pattern.specs.Schedule.{is_plain}
use Rattle.croner_pattern.proofs.describe.fields.begins_at_least.Goals as goal

pub returns-then-max-eq0 : goal.returns-then-max-eq0
returns-then-max-eq0 c = sym (begins_with_none c.args.field.now c.max.ensures.whole (sym c.max.ensures.value ∙ c.if-max-eq0.true))

pub returns : goal.returns
returns c = c.has_plain.ensures ∙ ap (is_plain c.args.field.now) c.min.ensures ∙ begins_at_least c.args.field.now c.max.ensures.whole
