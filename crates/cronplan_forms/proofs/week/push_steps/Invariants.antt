use Rattle.std.proofs.Common.{◌≡◌, ◌++◌, drop, string_bytes}
use Rattle.std.specs.List.{flat_map}
use Rattle.cronplan_forms.specs.Weeks.{step_text}
use Rattle.cronplan_forms.proofs.week.push_steps.Given as goal

abbrev pub invariant-loop-least : goal.invariant-loop-least
invariant-loop-least l = string_bytes l.text ++ flat_map (step_text l.signs) (drop l.least-index l.steps) ≡ string_bytes l.initial.text ++ flat_map (step_text l.signs) l.steps
