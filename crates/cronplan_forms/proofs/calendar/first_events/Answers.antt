use Rattle.std.proofs.Common.{sym}
use Rattle.std.proofs.lemmas.List.{take_all}
use Rattle.cronplan_forms.proofs.calendar.first_events.Goals as goal

pub returns : goal.returns
returns c = sym (take_all 2_000 c.args.events.now c.if-events-gt-MOST_EVENTS.false)
