use Rattle.std.proofs.Common.{◌≡◌, ◌++◌, drop, string_bytes}
use Rattle.std.specs.List.{flat_map}
use Rattle.cronplan_forms.specs.Weeks.{row_text}
use Rattle.cronplan_forms.proofs.week.push_rows.Given as goal

abbrev pub invariant-loop-day : goal.invariant-loop-day
invariant-loop-day l = string_bytes l.text ++ flat_map (row_text l.signs) (drop l.day-index l.days) ≡ string_bytes l.initial.text ++ flat_map (row_text l.signs) l.days
