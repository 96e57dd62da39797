use Rattle.std.proofs.Common.{◌<◌, length, take, rules, pos}
use Rattle.std.proofs.lemmas.List.{take_more}
use Rattle.cronplan.specs.declared.changes.ClockChange.{ClockChange}
use Rattle.cronplan_page.proofs.timed.timed_changes.Goals as goal

-- what stands where there is none
abbrev none : ClockChange
none = record { second = pos 0; before = pos 0; shown = pos 0 }

pub loop-change-preserved : goal.loop-change-preserved
loop-change-preserved c =
    let inside : c.loop-change.change-index < length c.args.changes.now = search rules in
    rw (take_more c.args.changes.now c.loop-change.change-index none inside) (c.in_ok-push_change.ensures (take c.loop-change.change-index c.args.changes.now) c.loop-change.invariant)
