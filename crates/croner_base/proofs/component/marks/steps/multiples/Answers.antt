use Rattle.croner_base.proofs.words.StepMasks.{found_first, found_more}
use Rattle.croner_base.proofs.component.marks.steps.multiples.Goals as goal

pub loop-by-init : goal.loop-by-init
loop-by-init c = rw c.from-by.ensures (found_first c.args.step c.requires)

pub loop-by-preserved : goal.loop-by-preserved
loop-by-preserved c = found_more c.loop-by.found c.loop-by.by c.args.step c.loop-by.invariant
