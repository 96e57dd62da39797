use Rattle.std.proofs.Common.{◌≡◌, drop}
use Rattle.cronplan_forms.specs.Frequents.{frequent_count}
use Rattle.cronplan_forms.proofs.view.frequent_count.Given as goal

abbrev pub invariant-loop-job : goal.invariant-loop-job
invariant-loop-job l = frequent_count (drop l.job-index l.frequent) l.place ≡ frequent_count l.frequent l.place
