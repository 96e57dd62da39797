use Rattle.std.proofs.Common.{◌≡◌, ◌++◌, drop, string_bytes}
use Rattle.std.specs.List.{flat_map}
use Rattle.cronplan_forms.specs.Weeks.{dropped_at}
use Rattle.cronplan_forms.proofs.week.changes.push_dropped.Given as goal

abbrev pub invariant-loop-job : goal.invariant-loop-job
invariant-loop-job l = string_bytes l.text ++ flat_map (dropped_at l.jobs l.change) (drop l.job-index l.dropped) ≡ string_bytes l.initial.text ++ flat_map (dropped_at l.jobs l.change) l.dropped
