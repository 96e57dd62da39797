use Rattle.std.proofs.Common.{◌≡◌, take}
use Rattle.std.specs.Prelude.{map}
use Rattle.serde_json.specs.View.{view}
use Rattle.croncheck_forms.specs.Sarif.{rule_object}
use Rattle.croncheck_forms.proofs.sarif.head.rule_objects.Given as goal

abbrev pub invariant-loop-rule : goal.invariant-loop-rule
invariant-loop-rule l = map view l.items.items ≡ map rule_object (take l.rule-index l.fn.rules)
