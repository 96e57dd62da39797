use Rattle.std.proofs.Common.{subst, sym, arith, List}
use Rattle.cronplan.specs.declared.together.Together.{Together}
use Rattle.cronplan.specs.Private.Meetings.{AreSetsUntil}
use Rattle.cronplan.proofs.JobSets.{no_sets, all_sets}
use Rattle.cronplan.proofs.together.sets_of.Goals as goal

pub loop-place-init : goal.loop-place-init
loop-place-init c = subst (λ (sets : List Together). AreSetsUntil 0 c.args.meetings.now sets) (sym c.new-sets.ensures.items) (no_sets c.args.meetings.now)

pub returns : goal.returns
returns c = all_sets c.args.meetings.now c.loop-place.sets.items c.loop-place.place (omega arith) c.loop-place.invariant
