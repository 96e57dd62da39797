use Rattle.std.proofs.Common.{sym, ◌∙◌}
use Rattle.croner_pattern.proofs.civil.TimeSearch.{time_in_minute}
use Rattle.croner_pattern.proofs.cursor.times.in_minute.Goals as goal

pub returns : goal.returns
returns g c =
    time_in_minute (g.P.PatternWords.meaning c.args.pattern.now) c.args.direction _ _ _ _ c.from_parts_unchecked.result c.from_parts_unchecked.ensures (sym c.is_plain.ensures ∙ c.if-not-is_plain.false)
    (sym c.is_plain-else-not-is_plain.ensures ∙ c.if-not-is_plain-2.false) c.in_ok-second.ensures
