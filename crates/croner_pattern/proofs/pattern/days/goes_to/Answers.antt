use Rattle.std.proofs.Common.{ap, ◌∙◌, eqb, sym}
use Rattle.croner_pattern.specs.Days.{resolved_day}
use Rattle.croner_pattern.proofs.days.DayTable.{nearest_is}
use Rattle.croner_pattern.proofs.pattern.days.goes_to.Goals as goal

pub returns : goal.returns
returns c =
    ap (eqb c.args.day) c.nearest_working_day.ensures.value
    ∙ ap (λ w. eqb c.args.day (resolved_day c.args.length w c.args.target)) c.weekday_of.ensures.value
    ∙ sym (nearest_is c.args.length c.args.first c.args.target c.args.day c.requires.length.0 c.requires.length.1 c.requires.first c.requires.target.0 c.requires.target.1 c.requires.day.0 c.requires.day.1)
