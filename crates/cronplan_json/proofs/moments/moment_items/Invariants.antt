use Rattle.std.proofs.Common.{◌≡◌, take}
use Rattle.std.specs.Prelude.{map}
use Rattle.serde_json.specs.View.{view}
use Rattle.cronplan_json.specs.Objects.{moment_object}
use Rattle.cronplan_json.proofs.moments.moment_items.Given as goal

abbrev pub invariant-loop-moment : goal.invariant-loop-moment
invariant-loop-moment l = map view l.items.items ≡ map (moment_object l.fn.starts) (take l.moment-index l.moments)
