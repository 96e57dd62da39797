use Rattle.std.proofs.Common.{◌≡◌, ◌≤◌, ◌-◌, vec_len, vec_capacity}
use Rattle.croner_scheduler.specs.Private.Places.{ids_from}
use Rattle.croner_scheduler.proofs.ids.list_between.Given as goal

abbrev pub invariant-loop-id : goal.invariant-loop-id
invariant-loop-id l =
    (l.fn.first ≤ l.id) × (l.ids.items ≡ ids_from l.fn.first (l.id - l.fn.first)) × (vec_len l.ids ≡ l.id - l.fn.first) × (vec_capacity l.ids ≡ l.fn.next - l.fn.first)
