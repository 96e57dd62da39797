use Rattle.croner_base.proofs.fields.MarkSets.{names-parts}
use Rattle.croner_base.proofs.laws.marks.a_list_names_the_union.Goals as goal

pub returns : goal.returns
returns c = λ shape parts k w h. names-parts shape parts k w h
