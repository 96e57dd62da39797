use Rattle.std.proofs.Common.{◌≡◌, ◌+◌, ◌<◌, suc, length}
use Rattle.cronplan_forms.specs.Private.Steps.{run_steps}
use Rattle.cronplan_forms.proofs.answers.runs.run_length.Given as goal

abbrev pub invariant-loop-rest : goal.invariant-loop-rest
invariant-loop-rest l = record {
  some : 0 < length l.rest;
  within : l.count + length l.rest ≡ suc (length l.windows);
  steps : l.count + run_steps l.rest ≡ suc (run_steps l.windows);
}

abbrev pub decreases-loop-rest : goal.decreases-loop-rest
decreases-loop-rest l = length l.rest
