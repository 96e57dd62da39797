use Rattle.std.proofs.Common.{sym, ◌∙◌}
use Rattle.std.proofs.lemmas.Option.{MatchOption-at_none}
use Rattle.croner.proofs.parser.characters.from_illegal.Goals as goal

pub returns : goal.returns
returns c = sym (MatchOption-at_none _ _ c.in_default.is c.text_after_legal.ensures) ∙ c.loop-after.invariant.1
