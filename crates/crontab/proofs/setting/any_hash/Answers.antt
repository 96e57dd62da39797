use Rattle.std.proofs.Common.{rules, tests}
use Rattle.std.proofs.lemmas.Iterator.Search.{any_from_yields_List}
use Rattle.std.proofs.lemmas.Iterator.Splits.{YieldsList-from_slice_split}
use Rattle.crontab.specs.Bytes.{is_blank, begins_with}
use Rattle.crontab.proofs.setting.any_hash.Goals as goal

pub returns : goal.returns
returns c =
    any_from_yields_List (begins_with 35) _ _ _ c.any.ensures.ran
    (YieldsList-from_slice_split _ is_blank c.args.text.now c.split.ensures.rest c.split.ensures.done c.split.ensures.closure
    (λ x r q k. search (rules, tests)))
    (λ x b q k. search (rules, tests))
