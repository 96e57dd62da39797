use Rattle.std.proofs.Common.{subst, sym, arith, List}
use Rattle.cronplan.specs.declared.together.Meeting.{Meeting}
use Rattle.cronplan.specs.Private.Meetings.{AreMeetingsUntil}
use Rattle.cronplan.proofs.JobSets.{no_meetings, all_meetings}
use Rattle.cronplan.proofs.together.meetings_of.Goals as goal

pub loop-place-init : goal.loop-place-init
loop-place-init c = subst (λ (ms : List Meeting). AreMeetingsUntil 0 c.args.starts.now ms) (sym c.new-meetings.ensures.items) (no_meetings c.args.starts.now)

pub returns : goal.returns
returns c = all_meetings c.args.starts.now c.loop-place.meetings.items c.loop-place.place (omega arith) c.loop-place.invariant
