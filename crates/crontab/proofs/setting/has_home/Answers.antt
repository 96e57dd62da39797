use Rattle.std.proofs.Common.{◌==◌, rules, tests}
use Rattle.std.proofs.lemmas.Iterator.Search.{any_from_yields_List}
use Rattle.std.proofs.lemmas.Iterator.Splits.{YieldsList-from_slice_split}
use Rattle.crontab.specs.Setting.{begins_home}
use Rattle.crontab.proofs.setting.has_home.Goals as goal

pub returns : goal.returns
returns c =
    any_from_yields_List begins_home _ _ _ c.any.ensures.ran
    (YieldsList-from_slice_split _ (λ b. b == 58) c.args.text.now c.split.ensures.rest c.split.ensures.done c.split.ensures.closure
    (λ x r q k. search (rules, tests)))
    (λ x b q k. search (rules, tests))
