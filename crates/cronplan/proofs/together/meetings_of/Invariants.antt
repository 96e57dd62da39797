use Rattle.cronplan.specs.Private.Meetings.{AreMeetingsUntil}
use Rattle.cronplan.proofs.together.meetings_of.Given as goal

abbrev pub invariant-loop-place : goal.invariant-loop-place
invariant-loop-place l = AreMeetingsUntil l.place l.fn.starts l.meetings.items
