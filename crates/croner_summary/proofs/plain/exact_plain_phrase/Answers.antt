use Rattle.std.proofs.Common.{refl}
use Rattle.croner_summary.proofs.Exactly.{in_order_of}
use Rattle.croner_summary.proofs.plain.exact_plain_phrase.Goals as goal

pub returns-then-name_plain_exactly-clause-ordered : goal.returns-then-name_plain_exactly-clause-ordered
returns-then-name_plain_exactly-clause-ordered c =
    in_order_of c.args.least c.args.greatest c.args.found.items c.deref.result.now c.deref-then-rise_within.result.now c.deref.ensures.value c.deref-then-rise_within.ensures.value
    (c.if-rise_within.ensures refl) (c.if-name_plain_exactly.ensures.once refl)
