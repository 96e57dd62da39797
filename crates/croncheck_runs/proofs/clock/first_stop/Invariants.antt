use Rattle.std.proofs.Common.{◌+◌, ◌≤◌, pos, ◌+ℤ◌}
use Rattle.jiff.specs.ZoneView.{plain_zone}
use Rattle.croner_base.specs.ZoneTable.{IsCalmWindow}
use Rattle.croncheck_runs.proofs.clock.first_stop.Given as goal

abbrev pub invariant-loop-gap : goal.invariant-loop-gap
invariant-loop-gap l = record {
  within : l.calm + l.gap ≤ l.fn.to_last;
  is_calm : IsCalmWindow (plain_zone l.fn.zone) l.fn.first (l.fn.first +ℤ pos l.calm);
  not_calm : ¬ (IsCalmWindow (plain_zone l.fn.zone) l.fn.first (l.fn.first +ℤ pos (l.calm + l.gap)));
}

abbrev pub decreases-loop-gap : goal.decreases-loop-gap
decreases-loop-gap l = l.gap
