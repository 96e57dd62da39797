use Rattle.cronplan_page.proofs.TimedLists.{changes_more}
use Rattle.cronplan_page.proofs.timed.push_change.Goals as goal

pub returns : goal.returns
returns c = λ changes h.
    changes_more _ changes c.args.timed.now.items c.push.new.self.items c.args.change c.timed_change.result h c.in_ok-push.ensures.items
    c.timed_change.ensures.change c.timed_change.ensures.timed
