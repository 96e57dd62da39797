use Rattle.std.proofs.Common.{sym, ◌∙◌}
use Rattle.croner_summary.proofs.NothingNamed.{none_exact}
use Rattle.croner_summary.proofs.field.marked_phrase.Goals as goal

pub returns-then-count_set_values-eq0-clause-ok : goal.returns-then-count_set_values-eq0-clause-ok
returns-then-count_set_values-eq0-clause-ok c =
    none_exact c.args.least c.args.greatest c.args.bit c.args.field.now c.phrase_of_none.result
    (sym c.count_set_values.ensures ∙ c.if-count_set_values-eq0.true) c.phrase_of_none.ensures.nothing
