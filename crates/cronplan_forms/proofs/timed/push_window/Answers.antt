use Rattle.std.proofs.Common.{refl, rules, FitsSigned, w64}
use Rattle.std.proofs.lemmas.Int.{to_z-of_z}
use Rattle.cronplan_forms.proofs.TimedLists.{windows_more}
use Rattle.cronplan_forms.proofs.timed.push_window.Goals as goal

pub returns : goal.returns
returns c = λ windows h.
    let from : FitsSigned w64 c.args.window.from.second = search rules in
    let until : FitsSigned w64 c.args.window.until.second = search rules in
    windows_more _ windows c.args.timed.now.items c.push.new.self.items c.args.window _ h c.in_ok-push.ensures.items refl
    (rw (to_z-of_z w64 c.args.window.from.second from) at c.at-from.ensures) (rw (to_z-of_z w64 c.args.window.until.second until) at c.at-until.ensures)
