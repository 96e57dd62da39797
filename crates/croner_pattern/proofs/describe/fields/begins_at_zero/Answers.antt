use Rattle.std.proofs.Common.{◌∙◌, ap, sym, arith}
use Rattle.croner_pattern.specs.Description.{begins_with, plain_values}
use Rattle.croner_pattern.proofs.descriptions.PlainValues.{not_with_zero}
use Rattle.croner_pattern.proofs.describe.fields.begins_at_zero.Goals as goal

pub returns-then-min-ne0 : goal.returns-then-min-ne0
returns-then-min-ne0 c = sym (not_with_zero c.args.field.now (omega (arith, c.min.ensures, c.if-min-ne0.true)))

pub returns : goal.returns
returns c = c.begins_at_least.ensures ∙ ap (λ n. begins_with n (plain_values c.args.field.now)) (sym c.min.ensures ∙ c.if-min-ne0.false)
