use Rattle.std.proofs.Common.{◌≡◌, take}
use Rattle.std.specs.Prelude.{map}
use Rattle.std.specs.List.{All}
use Rattle.cronplan_forms.specs.declared.calendar.event.Event.{Event}
use Rattle.cronplan_forms.specs.PlanCalendars.{IsEventOf}
use Rattle.cronplan_forms.proofs.calendar.of_plan.events_of.Given as goal

abbrev pub invariant-loop-start : goal.invariant-loop-start
invariant-loop-start l = record {
  of_them : map (λ (e : Event). e.start) l.events.items ≡ take l.start-index l.fn.starts;
  each : All (IsEventOf l.fn.jobs) l.events.items;
}
