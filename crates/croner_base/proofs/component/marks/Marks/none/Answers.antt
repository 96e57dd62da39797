use Rattle.std.proofs.Common.{ap, ◌∙◌}
use Rattle.croner_base.specs.Private.words.Rows.{sums_of}
use Rattle.croner_base.proofs.words.Sums.{sums_none, with_sums}
use Rattle.croner_base.proofs.component.marks.Marks.none.Goals as goal

pub returns : goal.returns
returns c = ap (with_sums 0 0) (ap (λ ws. sums_of ws 0 0) c.new.ensures.items ∙ sums_none 0 0 0)
