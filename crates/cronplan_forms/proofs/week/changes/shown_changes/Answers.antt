use Rattle.std.proofs.Common.{arith, rules}
use Rattle.cronplan_forms.specs.declared.week.changes.ShownChange.{ShownChange}
use Rattle.cronplan_forms.specs.Weeks.{IsShownChange}
use Rattle.cronplan_forms.proofs.Gathered.{of_more, each_more}
use Rattle.cronplan_forms.proofs.week.changes.shown_changes.Goals as goal

pub loop-change-preserved : goal.loop-change-preserved
loop-change-preserved c = record {
  of_them = of_more (λ (s : ShownChange). s.change) c.loop-change.shown.items c.push.new.self.items c.shown_change.result _ c.loop-change.change-index _ c.in_ok-push.ensures.items c.loop-change.invariant.of_them
      (omega (arith, c.loop-change-test.true)) c.shown_change.ensures.change;
  each = each_more (IsShownChange c.args.plan.now.starts.items) c.loop-change.shown.items c.push.new.self.items c.shown_change.result c.in_ok-push.ensures.items c.loop-change.invariant.each
      (record { expected_is = c.shown_change.ensures.expected; shown_is = c.shown_change.ensures.shown; starts_are = search rules });
}
