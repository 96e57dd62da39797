use Rattle.std.proofs.Common.{◌≡◌, take}
use Rattle.std.specs.Prelude.{map}
use Rattle.serde_json.specs.View.{view}
use Rattle.croncheck_forms.specs.Json.{finding_object}
use Rattle.croncheck_forms.proofs.json.finding_objects.Given as goal

abbrev pub invariant-loop-finding : goal.invariant-loop-finding
invariant-loop-finding l = map view l.items.items ≡ map finding_object (take l.finding-index l.fn.found)
