use Rattle.std.proofs.Common.{◌≡◌, ◌++◌, drop, string_bytes}
use Rattle.std.specs.List.{flat_map}
use Rattle.cronplan_forms.specs.Answers.{moment_line}
use Rattle.cronplan_forms.proofs.answers.busy.push_moments.Given as goal

abbrev pub invariant-loop-moment : goal.invariant-loop-moment
invariant-loop-moment l = string_bytes l.text ++ flat_map moment_line (drop l.moment-index l.moments) ≡ string_bytes l.initial.text ++ flat_map moment_line l.moments
