use Rattle.std.proofs.Common.{◌≡◌, take}
use Rattle.std.specs.Prelude.{filter}
use Rattle.croncheck_warnings.specs.Presets.{is_told}
use Rattle.croncheck_warnings.proofs.presets.those_told.Given as goal

abbrev pub invariant-loop-difference : goal.invariant-loop-difference
invariant-loop-difference l = l.told.items ≡ filter (is_told l.fn.is_refused) (take l.difference-index l.fn.differences)
