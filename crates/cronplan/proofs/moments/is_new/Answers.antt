use Rattle.std.proofs.Common.{◌∙◌, sym, arith}
use Rattle.cronplan.proofs.MomentStarts.{is_later, not_later}
use Rattle.cronplan.proofs.moments.is_new.Goals as goal

pub returns-else-place-eq0-clause-new : goal.returns-else-place-eq0-clause-new
returns-else-place-eq0-clause-new c = λ h d. is_later c.args.starts.now c.requires.order c.args.place d (omega arith) (omega arith) (sym c.is_earlier.ensures ∙ h)

pub returns-else-place-eq0-clause-old : goal.returns-else-place-eq0-clause-old
returns-else-place-eq0-clause-old c = λ h d. not_later c.args.starts.now c.requires.order c.args.place d (omega arith) (omega arith) (sym c.is_earlier.ensures ∙ h)
