use Rattle.std.proofs.Common.{◌≡◌, take}
use Rattle.std.specs.Prelude.{map}
use Rattle.serde_json.specs.View.{view}
use Rattle.cronplan_json.specs.Objects.{count}
use Rattle.cronplan_json.proofs.moments.place_items.Given as goal

abbrev pub invariant-loop-start : goal.invariant-loop-start
invariant-loop-start l = map view l.items.items ≡ map (λ s. count s.job) (take l.start-index l.starts)
