use Rattle.std.proofs.Common.{◌≡◌, ◌-◌, ◌≤◌, ◌++◌, length, drop, map, string_bytes}
use Rattle.std.specs.List.{flat_map}
use Rattle.croner_pattern.specs.Lists.{number_list, item_text, items_of, streaks_of}
use Rattle.croner_pattern.specs.Private.Lists.{from_place, separator}
use Rattle.croner_pattern.proofs.describe.lists.number_list.Given as goal

abbrev pub invariant-loop-start : goal.invariant-loop-start
invariant-loop-start l = record {
  counted : l.place ≤ l.start;
  within : l.start ≤ length l.values;
  written : string_bytes l.text ++ from_place (separator l.and) l.place (map item_text (flat_map items_of (streaks_of (drop l.start l.values)))) ≡ number_list l.and l.values;
}

abbrev pub decreases-loop-start : goal.decreases-loop-start
decreases-loop-start l = length l.values - l.start
