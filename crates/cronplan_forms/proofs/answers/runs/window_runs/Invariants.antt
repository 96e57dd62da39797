use Rattle.std.proofs.Common.{◌≡◌, ◌++◌, length}
use Rattle.std.specs.Prelude.{map}
use Rattle.cronplan_forms.specs.declared.answers.runs.WindowRun.{WindowRun}
use Rattle.cronplan_forms.specs.WindowRuns.{window_runs}
use Rattle.cronplan_forms.proofs.answers.runs.window_runs.Given as goal

abbrev pub invariant-loop-rest : goal.invariant-loop-rest
invariant-loop-rest l = map (λ (r : WindowRun). r.windows.now) l.runs.items ++ window_runs l.rest ≡ window_runs l.fn.windows

abbrev pub decreases-loop-rest : goal.decreases-loop-rest
decreases-loop-rest l = length l.rest
