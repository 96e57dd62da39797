use Rattle.std.proofs.Common.{◌∙◌, sym, arith}
use Rattle.cronplan.proofs.JobSets.{first_lower, had_lower}
use Rattle.cronplan.proofs.together.is_new.Goals as goal

pub returns-else-place-eq0-clause-new : goal.returns-else-place-eq0-clause-new
returns-else-place-eq0-clause-new c = λ h d.
    first_lower c.args.meetings.now c.requires.order c.args.place d c.index-meetings-place.result c.index-meetings-place-else-place-eq0.result (omega arith) (omega arith) c.index-meetings-place.is c.index-meetings-place-else-place-eq0.is
    (sym c.is_lower.ensures ∙ h)

pub returns-else-place-eq0-clause-old : goal.returns-else-place-eq0-clause-old
returns-else-place-eq0-clause-old c = λ h d.
    had_lower c.args.meetings.now c.requires.order c.args.place d c.index-meetings-place.result c.index-meetings-place-else-place-eq0.result (omega arith) (omega arith) c.index-meetings-place.is c.index-meetings-place-else-place-eq0.is
    (sym c.is_lower.ensures ∙ h)
