use Rattle.std.proofs.Common.{◌≡◌, take}
use Rattle.std.specs.Prelude.{map}
use Rattle.std.specs.List.{All}
use Rattle.cronplan_forms.specs.declared.week.WeekDay.{WeekDay}
use Rattle.cronplan_forms.specs.Weeks.{IsNamedDay}
use Rattle.cronplan_forms.proofs.week.named_days.Given as goal

abbrev pub invariant-loop-day : goal.invariant-loop-day
invariant-loop-day l = record {
  of_them : map (λ (d : WeekDay). d.day.now) l.named.items ≡ take l.day-index l.fn.days;
  each : All IsNamedDay l.named.items;
}
