use Rattle.std.proofs.Common.{◌≡◌, ◌++◌, drop, string_bytes}
use Rattle.cronplan_forms.specs.Answers.{hour_lines}
use Rattle.cronplan_forms.proofs.answers.busy.push_hours.Given as goal

abbrev pub invariant-loop-hour : goal.invariant-loop-hour
invariant-loop-hour l = string_bytes l.text ++ hour_lines l.hour (drop l.hour l.hours) ≡ string_bytes l.initial.text ++ hour_lines 0 l.hours
