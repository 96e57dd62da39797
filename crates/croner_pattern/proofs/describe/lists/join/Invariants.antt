use Rattle.std.proofs.Common.{◌≡◌, ◌++◌, drop, map, string_bytes}
use Rattle.std.specs.Prelude.{codes}
use Rattle.croner_pattern.specs.Lists.{joined}
use Rattle.croner_pattern.specs.Private.Lists.{from_place, comma}
use Rattle.croner_pattern.proofs.describe.lists.join.Given as goal

abbrev pub invariant-loop-place : goal.invariant-loop-place
invariant-loop-place l =
    string_bytes l.text ++ from_place comma l.place (drop l.place (map string_bytes l.items)) ≡ joined (codes ", ") (map string_bytes l.items)
