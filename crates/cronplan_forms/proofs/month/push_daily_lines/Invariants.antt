use Rattle.std.proofs.Common.{◌≡◌, ◌++◌, drop, string_bytes}
use Rattle.std.specs.List.{flat_map}
use Rattle.cronplan_forms.specs.Months.{daily_line}
use Rattle.cronplan_forms.proofs.month.push_daily_lines.Given as goal

abbrev pub invariant-loop-one : goal.invariant-loop-one
invariant-loop-one l = string_bytes l.text ++ flat_map daily_line (drop l.one-index l.daily) ≡ string_bytes l.initial.text ++ flat_map daily_line l.daily
