use Rattle.cronplan.specs.Private.Meetings.{AreSetsUntil}
use Rattle.cronplan.proofs.together.sets_of.Given as goal

abbrev pub invariant-loop-place : goal.invariant-loop-place
invariant-loop-place l = AreSetsUntil l.place l.fn.meetings l.sets.items
