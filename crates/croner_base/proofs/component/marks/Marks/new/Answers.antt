use Rattle.std.proofs.Common.{ap}
use Rattle.croner_base.proofs.words.Sums.{sums_none, with_sums}
use Rattle.croner_base.proofs.component.marks.Marks.new.Goals as goal

pub returns-then-width-eq1 : goal.returns-then-width-eq1
returns-then-width-eq1 c = ap (with_sums c.args.max c.args.supported) (sums_none 8 c.args.max 255)
