use Rattle.std.proofs.Common.{take}
use Rattle.cronplan_page.specs.Timed.{AreTimedStarts}
use Rattle.cronplan_page.proofs.timed.timed_starts.Given as goal

abbrev pub invariant-loop-start : goal.invariant-loop-start
invariant-loop-start l = AreTimedStarts l.view (take l.start-index l.starts) l.timed.items
