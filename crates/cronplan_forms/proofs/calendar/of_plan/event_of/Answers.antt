use Rattle.std.proofs.Common.{rules}
use Rattle.cronplan_forms.proofs.UtcClock.{utc_shown}
use Rattle.cronplan_forms.proofs.calendar.of_plan.event_of.Goals as goal

pub returns-clause-of : goal.returns-clause-of
returns-clause-of c = record { job = search rules; utc = utc_shown c.args.utc.now _ c.shown_at.result c.requires (search rules) }
