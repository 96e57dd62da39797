use Rattle.std.proofs.Common.{◌≡◌, take}
use Rattle.std.specs.Prelude.{map}
use Rattle.serde_json.specs.View.{view}
use Rattle.jiff.specs.ZoneView.{plain_zone}
use Rattle.croncheck_forms.specs.Json.{run_object}
use Rattle.croncheck_forms.proofs.json.run_objects.Given as goal

abbrev pub invariant-loop-run : goal.invariant-loop-run
invariant-loop-run l = map view l.items.items ≡ map (run_object (plain_zone l.fn.shared.zone)) (take l.run-index l.fn.runs)
