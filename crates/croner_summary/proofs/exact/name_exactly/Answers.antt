use Rattle.std.proofs.Common.{refl, ◌∙◌}
use Rattle.croner_summary.proofs.Exactly.{agree_more, once_more}
use Rattle.croner_summary.proofs.exact.name_exactly.Goals as goal

pub loop-value-preserved : goal.loop-value-preserved
loop-value-preserved c = record {
  agree = agree_more c.args.least c.args.greatest c.args.pieces.now c.args.bit c.args.field.now c.loop-value.value c.loop-value.invariant.agree ((c.if-not-name_rightly.ensures refl).agrees ∙ c.has.ensures);
  once = once_more c.args.least c.args.greatest c.args.pieces.now c.loop-value.value c.loop-value.invariant.once (c.if-not-name_rightly.ensures refl).once;
}
