use Rattle.std.proofs.Common.{refl, rules, FitsSigned, w64}
use Rattle.std.proofs.lemmas.Int.{to_z-of_z}
use Rattle.cronplan_forms.proofs.TimedLists.{moments_more}
use Rattle.cronplan_forms.proofs.timed.push_moment.Goals as goal

pub returns : goal.returns
returns c = λ moments h.
    let fits : FitsSigned w64 c.args.moment.second = search rules in
    moments_more _ moments c.args.timed.now.items c.push.new.self.items c.args.moment _ h c.in_ok-push.ensures.items refl (rw (to_z-of_z w64 c.args.moment.second fits) at c.at-time.ensures)
