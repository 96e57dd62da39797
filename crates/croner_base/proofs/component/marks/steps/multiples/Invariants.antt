use Rattle.std.proofs.Common.{◌-◌}
use Rattle.croner_base.proofs.words.StepMasks.{FoundTo}
use Rattle.croner_base.proofs.component.marks.steps.multiples.Given as goal

abbrev pub invariant-loop-by : goal.invariant-loop-by
invariant-loop-by l = FoundTo l.found l.by l.step

abbrev pub decreases-loop-by : goal.decreases-loop-by
decreases-loop-by l = 64 - l.by
