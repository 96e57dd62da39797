use Rattle.std.proofs.Common.{◌≡◌, ◌++◌, drop, map, string_bytes}
use Rattle.croner_pattern.specs.Lists.{text_list}
use Rattle.croner_pattern.specs.Private.Lists.{from_place, separator}
use Rattle.croner_pattern.proofs.describe.lists.text_list.Given as goal

abbrev pub invariant-loop-place : goal.invariant-loop-place
invariant-loop-place l =
    string_bytes l.text ++ from_place (separator l.and) l.place (drop l.place (map string_bytes l.items)) ≡ text_list l.and (map string_bytes l.items)
