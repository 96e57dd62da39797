use Rattle.std.proofs.Common.{◌≡◌, ◌++◌, drop, string_bytes}
use Rattle.std.specs.List.{flat_map}
use Rattle.cronplan_forms.specs.Answers.{left_out_line}
use Rattle.cronplan_forms.proofs.answers.left_out.push_frequent.Given as goal

abbrev pub invariant-loop-job : goal.invariant-loop-job
invariant-loop-job l =
    string_bytes l.text ++ flat_map (left_out_line l.jobs) (drop l.job-index l.frequent)
    ≡ string_bytes l.initial.text ++ flat_map (left_out_line l.jobs) l.frequent
