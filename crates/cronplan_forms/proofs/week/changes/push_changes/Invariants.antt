use Rattle.std.proofs.Common.{◌≡◌, ◌++◌, drop, string_bytes}
use Rattle.std.specs.List.{flat_map}
use Rattle.cronplan_forms.specs.Weeks.{change_text}
use Rattle.cronplan_forms.proofs.week.changes.push_changes.Given as goal

abbrev pub invariant-loop-change : goal.invariant-loop-change
invariant-loop-change l = string_bytes l.text ++ flat_map (change_text l.view) (drop l.change-index l.changes) ≡ string_bytes l.initial.text ++ flat_map (change_text l.view) l.changes
