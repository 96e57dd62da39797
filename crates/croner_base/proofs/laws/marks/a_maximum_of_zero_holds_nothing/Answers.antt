use Rattle.croner_base.proofs.fields.MarkSets.{zero-ask, zero-mark}
use Rattle.croner_base.proofs.laws.marks.a_maximum_of_zero_holds_nothing.Goals as goal

pub returns : goal.returns
returns c = record { asks = λ shape value bits h. zero-ask shape value bits h; marks = λ shape value bits h. zero-mark shape value bits h }
