use Rattle.std.proofs.Common.{◌≡◌, ◌++◌, drop, string_bytes}
use Rattle.std.specs.List.{flat_map}
use Rattle.cronplan_page.specs.Markup.{line_text}
use Rattle.cronplan_page.proofs.markup.push_lines.Given as goal

abbrev pub invariant-loop-line : goal.invariant-loop-line
invariant-loop-line l = string_bytes l.out ++ flat_map line_text (drop l.line-index l.lines) ≡ string_bytes l.initial.out ++ flat_map line_text l.lines
