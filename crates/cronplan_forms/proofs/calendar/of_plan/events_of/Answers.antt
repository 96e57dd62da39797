use Rattle.std.proofs.Common.{arith}
use Rattle.cronplan_forms.specs.declared.calendar.event.Event.{Event}
use Rattle.cronplan_forms.specs.PlanCalendars.{IsEventOf}
use Rattle.cronplan_forms.proofs.Gathered.{of_more, each_more}
use Rattle.cronplan_forms.proofs.calendar.of_plan.events_of.Goals as goal

pub loop-start-preserved : goal.loop-start-preserved
loop-start-preserved c = record {
  of_them = of_more (λ (s : Event). s.start) c.loop-start.events.items c.push.new.self.items c.event_of.result _ c.loop-start.start-index _ c.in_ok-push.ensures.items c.loop-start.invariant.of_them
      (omega (arith, c.loop-start-test.true)) c.event_of.ensures.start;
  each = each_more (IsEventOf c.args.jobs.now) c.loop-start.events.items c.push.new.self.items c.event_of.result c.in_ok-push.ensures.items c.loop-start.invariant.each c.event_of.ensures.of;
}
