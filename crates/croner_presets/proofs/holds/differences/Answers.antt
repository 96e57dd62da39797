use Rattle.std.proofs.Common.{◌≡◌, ◌∙◌, map}
use Rattle.std.specs.Str.{str_to_ascii_uppercase}
use Rattle.croner.specs.parser.Words.{AreWords}
use Rattle.croner_presets.proofs.Told.{all_told}
use Rattle.croner_presets.proofs.holds.differences.Goals as goal

pub returns-clause-ok : goal.returns-clause-ok
returns-clause-ok c =
    let raised : c.as_str.result.now ≡ str_to_ascii_uppercase c.args.text.now = c.as_str.ensures.value ∙ c.in_ok-raised.ensures.ok in
    let words : AreWords c.as_str.result.now (map (λ w. w.now) c.as_slice.result.now) = rw c.as_slice.ensures.value c.in_ok-words.ensures in
    all_told (λ v. v.items) c.those_that_hold.result c.args.preset c.args.text.now c.as_str.result.now (map (λ w. w.now) c.as_slice.result.now) c.differences_looked_for.result.now raised words c.differences_looked_for.ensures c.those_that_hold.ensures.ok
