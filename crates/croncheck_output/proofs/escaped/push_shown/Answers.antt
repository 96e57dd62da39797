use Rattle.std.proofs.Common.{◌≡◌, ◌<◌, length, rules}
use Rattle.croncheck_output.proofs.ShownBytes.{one_more, no_more}
use Rattle.croncheck_output.proofs.escaped.push_shown.Goals as goal

pub loop-rest-preserved : goal.loop-rest-preserved
loop-rest-preserved c =
    let some : 0 < length c.loop-rest.rest.now = search rules in
    one_more _ _ c.loop-rest.rest.now _ c.in_ok-rest.rest.now some c.in_ok-rest.ensures.shown c.in_ok-rest.ensures.rest c.loop-rest.invariant

pub returns : goal.returns
returns c =
    let none : length c.loop-rest.rest.now ≡ 0 = search rules in
    no_more _ _ c.loop-rest.rest.now none c.loop-rest.invariant
