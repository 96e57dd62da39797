use Rattle.std.proofs.Common.{rules, FitsSigned, w64}
use Rattle.std.proofs.lemmas.Int.{to_z-of_z}
use Rattle.cronplan_page.proofs.TimedLists.{change_timed}
use Rattle.cronplan_page.proofs.timed.timed_change.Goals as goal

pub returns-clause-timed : goal.returns-clause-timed
returns-clause-timed c =
    let fits : FitsSigned w64 c.args.change.second = search rules in
    let low : FitsSigned w64 c.saturating_sub.result = search rules in
    change_timed _ _ c.saturating_sub.result (rw (to_z-of_z w64 c.args.change.second fits) at c.shown_at-2.ensures)
    (rw (to_z-of_z w64 c.args.change.second fits) at c.saturating_sub.ensures) (rw (to_z-of_z w64 c.saturating_sub.result low) at c.shown_at.ensures)
