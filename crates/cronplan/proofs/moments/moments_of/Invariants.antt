use Rattle.cronplan.specs.Private.MomentsUntil.{AreMomentsUntil}
use Rattle.cronplan.proofs.moments.moments_of.Given as goal

abbrev pub invariant-loop-place : goal.invariant-loop-place
invariant-loop-place l = AreMomentsUntil l.place l.fn.starts l.moments.items
