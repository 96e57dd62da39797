use Rattle.std.proofs.Common.{subst, sym, arith, List}
use Rattle.cronplan.specs.declared.moments.Moment.{Moment}
use Rattle.cronplan.specs.Private.MomentsUntil.{AreMomentsUntil}
use Rattle.cronplan.proofs.MomentStarts.{none_until, all_until}
use Rattle.cronplan.proofs.moments.moments_of.Goals as goal

pub loop-place-init : goal.loop-place-init
loop-place-init c = subst (λ (ms : List Moment). AreMomentsUntil 0 c.args.starts.now ms) (sym c.new-moments.ensures.items) (none_until c.args.starts.now)

pub returns : goal.returns
returns c = all_until c.args.starts.now c.loop-place.moments.items c.loop-place.place (omega arith) c.loop-place.invariant
