use Rattle.std.proofs.Common.{◌∙◌}
use Rattle.croner_base.proofs.calendar.Chronology.{parts_cmp-chronological}
use Rattle.croner_base.proofs.laws.calendar.order_is_chronological.Goals as goal

pub returns : goal.returns
returns c = c.cmp.ensures ∙ parts_cmp-chronological c.args.left c.args.right
