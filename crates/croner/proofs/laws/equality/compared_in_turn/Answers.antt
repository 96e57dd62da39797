use Rattle.std.proofs.Common.{rules, ◌≡◌, ◌∙◌, ap, sym}
use Rattle.std.specs.Cmp.{upto}
use Rattle.std.specs.Ordering.{is_gt}
use Rattle.croner_pattern.specs.Order.{pattern_cmp, pattern_cmp_total}
use Rattle.croner.proofs.laws.equality.compared_in_turn.Goals as goal

pub returns-clause-chain : goal.returns-clause-chain
returns-clause-chain c = λ h k.
    let first = c.args.first.now.pattern in
    let second = c.args.second.now.pattern in
    let third = c.args.third.now.pattern in
    let one : c.cmp.result ≡ pattern_cmp first second = search rules in
    let two : c.cmp-2.result ≡ pattern_cmp second third = search rules in
    let both : c.cmp-3.result ≡ pattern_cmp first third = search rules in
    ap is_gt both ∙ upto pattern_cmp_total first second third (ap is_gt (sym one) ∙ h) (ap is_gt (sym two) ∙ k)

pub returns-clause-total : goal.returns-clause-total
returns-clause-total c = pattern_cmp_total
