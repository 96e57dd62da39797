use Rattle.std.proofs.Common.{rules, ◌≡◌, ◌∙◌, ap, sym}
use Rattle.std.specs.Ordering.{ordering_reverse}
use Rattle.croner_pattern.specs.Order.{pattern_cmp, pattern_cmp_total}
use Rattle.croner.proofs.laws.equality.equal_and_compared.Goals as goal

pub returns-clause-turned : goal.returns-clause-turned
returns-clause-turned c =
    let one = c.args.one.now.pattern in
    let other = c.args.other.now.pattern in
    let there : c.cmp.result ≡ pattern_cmp one other = search rules in
    let back : c.cmp-2.result ≡ pattern_cmp other one = search rules in
    back ∙ pattern_cmp_total.antisymm other one ∙ ap ordering_reverse (sym there)
