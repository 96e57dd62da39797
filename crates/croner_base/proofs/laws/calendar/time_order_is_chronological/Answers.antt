use Rattle.std.proofs.Common.{◌∙◌}
use Rattle.croner_base.proofs.calendar.Chronology.{time_cmp-chronological}
use Rattle.croner_base.proofs.laws.calendar.time_order_is_chronological.Goals as goal

pub returns : goal.returns
returns c = c.cmp.ensures ∙ time_cmp-chronological c.args.time c.args.other
