use Rattle.std.proofs.Common.{◌≡◌, take}
use Rattle.std.specs.Prelude.{map}
use Rattle.std.specs.List.{All}
use Rattle.croner_base.specs.TableZone.{table_zone}
use Rattle.cronplan_forms.specs.declared.answers.together.ShownSet.{ShownSet}
use Rattle.cronplan_forms.specs.Answers.{IsShownSet}
use Rattle.cronplan_forms.proofs.answers.together.shown_sets.Given as goal

abbrev pub invariant-loop-set : goal.invariant-loop-set
invariant-loop-set l = record {
  of_them : map (λ (s : ShownSet). s.set.now) l.shown.items ≡ take l.set-index l.fn.sets;
  each : All (IsShownSet (table_zone l.fn.table)) l.shown.items;
}
