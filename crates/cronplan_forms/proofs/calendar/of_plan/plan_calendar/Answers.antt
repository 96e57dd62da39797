use Rattle.std.proofs.Common.{rules}
use Rattle.std.proofs.lemmas.Result.{IfOk-weaker}
use Rattle.cronplan_forms.specs.declared.calendar.Calendar.{Calendar}
use Rattle.cronplan_forms.proofs.calendar.of_plan.plan_calendar.Goals as goal

pub returns : goal.returns
returns c =
    let calendar : Calendar = record {
      name = c.args.naming.name;
      left_out = c.as_str.result;
      has_ignored = c.has_ignored.result;
      stamp = c.args.naming.stamp;
      lasts = c.args.naming.lasts;
      starts = c.len.result;
    } in
    IfOk-weaker c.calendar_text.result _ _
    (λ t is. (
      calendar,
      c.in_ok-events.events.items,
      record { name = search rules; left_out = search rules; has_ignored = search rules; stamp = search rules; lasts = search rules; starts = search rules; events_are = search rules; each = search rules },
      search rules,
    ))
    c.calendar_text.ensures
