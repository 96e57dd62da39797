use Rattle.std.proofs.Common.{inr}
use Rattle.croncheck_moments.proofs.moment.end_of_sixth_after.Goals as goal

pub returns-in-Some : goal.returns-in-Some
returns-in-Some c = inr (c.in-Some.sixth, c.in-Some.ensures, c.last_before_next.ensures)
