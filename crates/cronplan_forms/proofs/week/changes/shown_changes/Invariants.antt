use Rattle.std.proofs.Common.{◌≡◌, take}
use Rattle.std.specs.Prelude.{map}
use Rattle.std.specs.List.{All}
use Rattle.cronplan_forms.specs.declared.week.changes.ShownChange.{ShownChange}
use Rattle.cronplan_forms.specs.Weeks.{IsShownChange}
use Rattle.cronplan_forms.proofs.week.changes.shown_changes.Given as goal

abbrev pub invariant-loop-change : goal.invariant-loop-change
invariant-loop-change l = record {
  of_them : map (λ (s : ShownChange). s.change) l.shown.items ≡ take l.change-index l.fn.changes;
  each : All (IsShownChange l.fn.plan.starts.items) l.shown.items;
}
