use Rattle.std.proofs.Common.{◌≡◌, ◌∙◌, length, rules}
use Rattle.croncheck_forms.proofs.Sarifs.{none_in_uri}
use Rattle.croncheck_forms.proofs.sarif.uri.push_uri.Goals as goal

pub loop-rest-preserved : goal.loop-rest-preserved
loop-rest-preserved c = c.in_ok-rest.ensures.put ∙ c.loop-rest.invariant

pub returns : goal.returns
returns c =
    let none : length c.loop-rest.rest.now ≡ 0 = search rules in
    none_in_uri _ _ c.loop-rest.rest.now none c.loop-rest.invariant
