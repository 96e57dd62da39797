use Rattle.std.proofs.Common.{◌≡◌, map, take}
use Rattle.cronplan.proofs.together.places_of.Given as goal

abbrev pub invariant-loop-start : goal.invariant-loop-start
invariant-loop-start l = l.places.items ≡ map (λ s. s.job) (take l.start-index l.starts)
