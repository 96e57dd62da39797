use Rattle.std.proofs.Common.{◌≡◌, take}
use Rattle.croncheck_files.specs.Names.{last_place_before}
use Rattle.croncheck_files.proofs.names.last_place_before.Given as goal

abbrev pub invariant-loop-k : goal.invariant-loop-k
invariant-loop-k l = l.last ≡ last_place_before l.fn.place (take l.k l.fn.places)
