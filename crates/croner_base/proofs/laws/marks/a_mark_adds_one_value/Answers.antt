use Rattle.croner_base.proofs.fields.MarkSets.{adds_one}
use Rattle.croner_base.proofs.laws.marks.a_mark_adds_one_value.Goals as goal

pub returns : goal.returns
returns c = λ f value bits whole can. adds_one f value bits whole can
