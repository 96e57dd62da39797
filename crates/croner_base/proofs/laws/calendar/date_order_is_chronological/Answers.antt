use Rattle.std.proofs.Common.{◌∙◌}
use Rattle.croner_base.proofs.calendar.Chronology.{date_cmp-chronological}
use Rattle.croner_base.proofs.laws.calendar.date_order_is_chronological.Goals as goal

pub returns : goal.returns
returns c = c.cmp.ensures ∙ date_cmp-chronological c.args.date c.args.other
