use Rattle.croner.proofs.parser.ShapedTexts.{given_shaped}
use Rattle.croner.proofs.parser.CronParser.parse_or_explain.Goals as goal

pub invariant_of-result : goal.invariant_of-result
invariant_of-result c = record { shaped = given_shaped _ _ c.parse_text.result c.in-Ok.pattern c.parse_text.ensures c.in-Ok.is }
