use Rattle.std.proofs.Common.{◌≡◌, ◌-◌, ◌++◌, drop, map, string_bytes}
use Rattle.croner_pattern.specs.Description.{cyclic_name}
use Rattle.croner_pattern.specs.Lists.{text_list}
use Rattle.croner_pattern.specs.Private.Lists.{from_place, separator}
use Rattle.croner_pattern.proofs.describe.lists.name_list.Given as goal

abbrev pub invariant-loop-place : goal.invariant-loop-place
invariant-loop-place l =
    let named = map (λ value. cyclic_name (map (λ name. name.now) l.names) (value - l.first)) l.values in
    string_bytes l.text ++ from_place (separator l.and) l.place (drop l.place named) ≡ text_list l.and named
