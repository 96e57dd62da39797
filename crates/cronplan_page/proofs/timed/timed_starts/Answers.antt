use Rattle.std.proofs.Common.{◌<◌, length, take, rules, pos}
use Rattle.std.proofs.lemmas.List.{take_more}
use Rattle.cronplan.specs.declared.start.JobStart.{JobStart}
use Rattle.cronplan_page.proofs.timed.timed_starts.Goals as goal

-- what stands where there is none
abbrev none : JobStart
none = record { second = pos 0; job = 0; count = 0; wall = pos 0 }

pub loop-start-preserved : goal.loop-start-preserved
loop-start-preserved c =
    let inside : c.loop-start.start-index < length c.args.starts.now = search rules in
    rw (take_more c.args.starts.now c.loop-start.start-index none inside) (c.in_ok-push_start.ensures (take c.loop-start.start-index c.args.starts.now) c.loop-start.invariant)
