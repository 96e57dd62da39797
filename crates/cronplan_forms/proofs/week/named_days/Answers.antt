use Rattle.std.proofs.Common.{◌∙◌, arith}
use Rattle.cronplan_forms.specs.declared.week.WeekDay.{WeekDay}
use Rattle.cronplan_forms.specs.Weeks.{IsNamedDay}
use Rattle.cronplan_forms.proofs.Gathered.{of_more, each_more}
use Rattle.cronplan_forms.proofs.week.named_days.Goals as goal

pub loop-day-preserved : goal.loop-day-preserved
loop-day-preserved c = record {
  of_them = of_more (λ (s : WeekDay). s.day.now) c.loop-day.named.items c.push.new.self.items c.named_day.result _ c.loop-day.day-index _ c.in_ok-push.ensures.items c.loop-day.invariant.of_them
      (omega (arith, c.loop-day-test.true)) (c.named_day.ensures.day ∙ c.day-item.is);
  each = each_more (IsNamedDay) c.loop-day.named.items c.push.new.self.items c.named_day.result c.in_ok-push.ensures.items c.loop-day.invariant.each c.named_day.ensures.name;
}
