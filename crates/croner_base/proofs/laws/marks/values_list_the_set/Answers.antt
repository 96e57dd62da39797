use Rattle.croner_base.proofs.fields.MarkSets.{lists_set}
use Rattle.croner_base.proofs.laws.marks.values_list_the_set.Goals as goal

pub returns : goal.returns
returns c = λ f bits. lists_set f bits
