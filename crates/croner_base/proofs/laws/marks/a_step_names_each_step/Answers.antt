use Rattle.croner_base.proofs.fields.MarkSets.{names-steps}
use Rattle.croner_base.proofs.laws.marks.a_step_names_each_step.Goals as goal

pub returns : goal.returns
returns c = λ shape bits s e step some order k w h. names-steps shape bits s e step k w some order h
