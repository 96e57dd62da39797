use Rattle.croner_base.proofs.fields.MarkSets.{has_any-several}
use Rattle.croner_base.proofs.laws.marks.several_modifiers_ask_for_any.Goals as goal

pub returns : goal.returns
returns c = λ f a b value. has_any-several _ a b
