use Rattle.croner_base.proofs.fields.MarkSets.{is_in-applied}
use Rattle.croner_base.proofs.laws.marks.reading_adds_what_it_names.Goals as goal

pub returns : goal.returns
returns c = λ f reading k w h. is_in-applied k w reading.done f h
