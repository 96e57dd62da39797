use Rattle.std.proofs.Common.{◌≡◌, ◌-◌, ◌^◌, min, take}
use Rattle.std.specs.List.{count_by}
use Rattle.cronplan_forms.specs.PlanCalendars.{is_same_job}
use Rattle.cronplan_forms.proofs.calendar.of_plan.equal_before.Given as goal

abbrev pub invariant-loop-k : goal.invariant-loop-k
invariant-loop-k l = record {
  count : l.equal ≡ min (count_by (is_same_job l.fn.job) (take l.k l.fn.jobs)) (2 ^ 32 - 1);
}
