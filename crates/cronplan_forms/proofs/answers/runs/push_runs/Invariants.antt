use Rattle.std.proofs.Common.{◌≡◌, ◌++◌, drop, string_bytes}
use Rattle.std.specs.List.{flat_map}
use Rattle.std.specs.Prelude.{map}
use Rattle.cronplan_forms.specs.declared.answers.runs.WindowRun.{WindowRun}
use Rattle.cronplan_forms.specs.WindowRuns.{run_line}
use Rattle.cronplan_forms.proofs.answers.runs.push_runs.Given as goal

abbrev pub invariant-loop-run : goal.invariant-loop-run
invariant-loop-run l =
    string_bytes l.text ++ flat_map run_line (map (λ (r : WindowRun). r.windows.now) (drop l.run-index l.runs))
    ≡ string_bytes l.initial.text ++ flat_map run_line (map (λ (r : WindowRun). r.windows.now) l.runs)
