use Rattle.std.proofs.Common.{◌≡◌, take}
use Rattle.std.specs.Prelude.{filter, map}
use Rattle.croner_presets.specs.Differences.{holds}
use Rattle.croner_presets.proofs.holds.those_that_hold.Given as goal

abbrev pub invariant-loop-difference : goal.invariant-loop-difference
invariant-loop-difference l =
    l.found.items ≡ filter (holds l.fn.preset l.fn.text (map (λ w. w.now) l.fn.words)) (take l.difference-index l.fn.differences)
