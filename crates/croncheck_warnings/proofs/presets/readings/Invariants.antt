use Rattle.std.proofs.Common.{◌≡◌, take}
use Rattle.std.specs.Prelude.{map}
use Rattle.croncheck_warnings.specs.Presets.{reading}
use Rattle.croncheck_warnings.proofs.presets.readings.Given as goal

abbrev pub invariant-loop-difference : goal.invariant-loop-difference
invariant-loop-difference l = l.found.items ≡ map (reading l.fn.preset) (take l.difference-index l.fn.differences)
