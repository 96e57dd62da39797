use Rattle.std.proofs.Common.{rules}
use Rattle.croner_pattern.proofs.descriptions.PlainValues.{all_by_count}
use Rattle.croner_pattern.proofs.describe.fields.is_all.Goals as goal

pub returns-then-step-eq1 : goal.returns-then-step-eq1
returns-then-step-eq1 c =
    let all = all_by_count c.args.field.now c.max-greatest.ensures.whole in
    search (rules, all)
