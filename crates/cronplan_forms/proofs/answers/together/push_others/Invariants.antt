use Rattle.std.proofs.Common.{◌≡◌, ◌++◌, drop, string_bytes}
use Rattle.std.specs.List.{flat_map}
use Rattle.cronplan_forms.specs.Answers.{added_name}
use Rattle.cronplan_forms.proofs.answers.together.push_others.Given as goal

abbrev pub invariant-loop-place : goal.invariant-loop-place
invariant-loop-place l =
    string_bytes l.text ++ flat_map (added_name l.jobs) (drop l.place-index l.places)
    ≡ string_bytes l.initial.text ++ flat_map (added_name l.jobs) l.places
