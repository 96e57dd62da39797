use Rattle.std.proofs.Common.{◌≡◌, ◌∙◌, length, rules}
use Rattle.croncheck_shown.proofs.Found.{none_below}
use Rattle.croncheck_shown.proofs.shown.below.push_below.Goals as goal

pub loop-rest-preserved : goal.loop-rest-preserved
loop-rest-preserved c = c.in_ok-rest.ensures.said ∙ c.loop-rest.invariant

pub returns : goal.returns
returns c =
    let none : length c.loop-rest.rest.now ≡ 0 = search rules in
    none_below c.args.look _ _ c.loop-rest.rest.now none c.loop-rest.invariant
