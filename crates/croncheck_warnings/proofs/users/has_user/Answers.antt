use Rattle.std.proofs.Common.{rules, tests, ◌==◌}
use Rattle.std.proofs.lemmas.Iterator.Search.{any_from_yields_List}
use Rattle.std.proofs.lemmas.Iterator.Splits.{YieldsList-from_slice_split}
use Rattle.croncheck_warnings.specs.Users.{is_line_of}
use Rattle.croncheck_warnings.proofs.users.has_user.Goals as goal

pub returns : goal.returns
returns c =
    any_from_yields_List (is_line_of c.args.name.now) _ _ _ c.any.ensures.ran
    (YieldsList-from_slice_split _ (λ b. b == 10) c.args.text.now c.split.ensures.rest c.split.ensures.done c.split.ensures.closure
    (λ x r q k. search (rules, tests)))
    (λ x b q k. search (rules, tests))
