use Rattle.std.proofs.Common.{◌≡◌, ◌++◌, drop, string_bytes}
use Rattle.std.specs.List.{flat_map}
use Rattle.cronplan_page.specs.Weeks.{row_text}
use Rattle.cronplan_page.proofs.week.push_rows.Given as goal

abbrev pub invariant-loop-row : goal.invariant-loop-row
invariant-loop-row l = string_bytes l.out ++ flat_map row_text (drop l.row-index l.rows) ≡ string_bytes l.initial.out ++ flat_map row_text l.rows
