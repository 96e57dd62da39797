use Rattle.std.proofs.Common.{◌+◌, ◌≤◌, pos, ◌-ℤ◌}
use Rattle.jiff.specs.ZoneView.{plain_zone}
use Rattle.croner_base.specs.ZoneTable.{IsCalmWindow}
use Rattle.croncheck_runs.proofs.past.last_calm.Given as goal

abbrev pub invariant-loop-gap : goal.invariant-loop-gap
invariant-loop-gap l = record {
  within : l.calm + l.gap ≤ l.fn.most;
  is_calm : IsCalmWindow (plain_zone l.fn.zone) (l.fn.last -ℤ pos l.calm) l.fn.last;
  not_calm : ¬ (IsCalmWindow (plain_zone l.fn.zone) (l.fn.last -ℤ pos (l.calm + l.gap)) l.fn.last);
}

abbrev pub decreases-loop-gap : goal.decreases-loop-gap
decreases-loop-gap l = l.gap
