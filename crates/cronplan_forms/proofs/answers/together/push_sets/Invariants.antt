use Rattle.std.proofs.Common.{◌≡◌, ◌++◌, drop, string_bytes}
use Rattle.std.specs.List.{flat_map}
use Rattle.cronplan_forms.specs.Answers.{set_line}
use Rattle.cronplan_forms.proofs.answers.together.push_sets.Given as goal

abbrev pub invariant-loop-set : goal.invariant-loop-set
invariant-loop-set l =
    string_bytes l.text ++ flat_map (set_line l.jobs) (drop l.set-index l.sets)
    ≡ string_bytes l.initial.text ++ flat_map (set_line l.jobs) l.sets
