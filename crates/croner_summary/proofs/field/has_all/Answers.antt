use Rattle.std.proofs.Common.{◌+◌, ◌-◌, eqb, ap, sym, ◌∙◌}
use Rattle.croner_summary.proofs.AllPlain.{all_plain}
use Rattle.croner_summary.proofs.field.has_all.Goals as goal

pub returns : goal.returns
returns c counted =
    all_plain c.args.least c.args.greatest c.args.field.now c.max.ensures.whole (sym c.min.ensures ∙ c.if-min-least.false) (sym c.max.ensures.value ∙ c.if-max-greatest.false)
    (ap (λ n. eqb n ((c.args.greatest - c.args.least) + 1)) (sym c.count_set_values.ensures) ∙ ap (λ n. eqb c.count_set_values.result (n + 1)) (sym c.from.ensures) ∙ counted)
