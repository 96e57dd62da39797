use Rattle.std.proofs.Common.{sym}
use Rattle.std.proofs.lemmas.List.{take_all}
use Rattle.cronplan_forms.proofs.calendar.of_plan.first_starts.Goals as goal

pub returns : goal.returns
returns c = sym (take_all 2_000 c.args.starts.now c.if-starts-gt-MOST_EVENTS.false)
