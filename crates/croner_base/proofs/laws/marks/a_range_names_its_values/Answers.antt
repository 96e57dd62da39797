use Rattle.croner_base.proofs.fields.MarkSets.{names-range}
use Rattle.croner_base.proofs.laws.marks.a_range_names_its_values.Goals as goal

pub returns : goal.returns
returns c = λ shape bits a b k w h. names-range shape bits a b k w h
