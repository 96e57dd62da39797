use Rattle.std.proofs.Common.{refl, rules, FitsSigned, w64}
use Rattle.std.proofs.lemmas.Int.{to_z-of_z}
use Rattle.cronplan_page.proofs.TimedLists.{starts_more}
use Rattle.cronplan_page.proofs.timed.push_start.Goals as goal

pub returns : goal.returns
returns c = λ starts h.
    let fits : FitsSigned w64 c.args.start.second = search rules in
    starts_more _ starts c.args.timed.now.items c.push.new.self.items c.args.start _ h c.in_ok-push.ensures.items refl (rw (to_z-of_z w64 c.args.start.second fits) at c.at-time.ensures)
