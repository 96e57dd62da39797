use Rattle.std.proofs.Common.{take}
use Rattle.cronplan_forms.specs.Timed.{AreTimedMoments}
use Rattle.cronplan_forms.proofs.timed.timed_moments.Given as goal

abbrev pub invariant-loop-moment : goal.invariant-loop-moment
invariant-loop-moment l = AreTimedMoments l.view (take l.moment-index l.moments) l.timed.items
