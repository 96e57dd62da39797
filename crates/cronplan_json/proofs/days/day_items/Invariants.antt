use Rattle.std.proofs.Common.{◌≡◌, take}
use Rattle.std.specs.Prelude.{map}
use Rattle.serde_json.specs.View.{view}
use Rattle.cronplan_json.specs.Objects.{day_object}
use Rattle.cronplan_json.proofs.days.day_items.Given as goal

abbrev pub invariant-loop-day : goal.invariant-loop-day
invariant-loop-day l = map view l.items.items ≡ map day_object (take l.day-index l.days)
