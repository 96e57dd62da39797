use Rattle.std.proofs.Common.{◌<◌, length, take, rules, pos}
use Rattle.std.proofs.lemmas.List.{take_more}
use Rattle.cronplan.specs.declared.moments.Moment.{Moment}
use Rattle.cronplan_forms.proofs.timed.timed_moments.Goals as goal

-- what stands where there is none
abbrev none : Moment
none = record { second = pos 0; wall = pos 0; starts = 0 }

pub loop-moment-preserved : goal.loop-moment-preserved
loop-moment-preserved c =
    let inside : c.loop-moment.moment-index < length c.args.moments.now = search rules in
    rw (take_more c.args.moments.now c.loop-moment.moment-index none inside) (c.in_ok-push_moment.ensures (take c.loop-moment.moment-index c.args.moments.now) c.loop-moment.invariant)
