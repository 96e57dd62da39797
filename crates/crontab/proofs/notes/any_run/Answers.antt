use Rattle.std.proofs.Common.{not, rules, tests}
use Rattle.std.proofs.lemmas.Iterator.Search.{any_from_yields_List}
use Rattle.std.proofs.lemmas.Iterator.Splits.{YieldsList-from_slice_split}
use Rattle.crontab.specs.Bytes.{is_of}
use Rattle.crontab.specs.Notes.{passes}
use Rattle.crontab.proofs.notes.any_run.Goals as goal

pub returns : goal.returns
returns c =
    any_from_yields_List (passes c.args.sign c.args.bounds) _ _ _ c.any.ensures.ran
    (YieldsList-from_slice_split _ (λ b. not (is_of c.args.kind b)) c.args.text.now c.split.ensures.rest c.split.ensures.done c.split.ensures.closure
    (λ x r q k. search (rules, tests)))
    (λ x b q k. search (rules, tests))
