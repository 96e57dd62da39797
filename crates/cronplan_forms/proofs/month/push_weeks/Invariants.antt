use Rattle.std.proofs.Common.{◌≡◌, ◌++◌, ◌*◌, string_bytes}
use Rattle.std.specs.List.{flat_map, range_with_len}
use Rattle.cronplan_forms.specs.Months.{week_text}
use Rattle.cronplan_forms.proofs.month.push_weeks.Given as goal

abbrev pub invariant-loop-week : goal.invariant-loop-week
invariant-loop-week l = string_bytes l.text ≡ string_bytes l.initial.text ++ flat_map (λ week. week_text l.month (7 * week)) (range_with_len 0 l.week)
