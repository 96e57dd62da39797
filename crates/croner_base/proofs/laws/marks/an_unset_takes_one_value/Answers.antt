use Rattle.croner_base.proofs.fields.MarkSets.{takes_one}
use Rattle.croner_base.proofs.laws.marks.an_unset_takes_one_value.Goals as goal

pub returns : goal.returns
returns c = λ f value bits whole can byte. takes_one f value bits whole can byte
