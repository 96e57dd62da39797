use Rattle.std.proofs.Common.{◌+◌, ◌≤◌, pos, ◌+ℤ◌, ◌-ℤ◌}
use Rattle.std.specs.Prelude.{◌<ℤ◌, ◌≤ℤ◌}
use Rattle.jiff.specs.ZoneView.{plain_zone}
use Rattle.croncheck_moments.specs.Moment.{seconds_across, seconds_around, shown_at}
use Rattle.croncheck_moments.proofs.date.second_over.Given as goal

abbrev pub invariant-loop-gap : goal.invariant-loop-gap
invariant-loop-gap l = record {
  within : l.before + l.gap ≤ seconds_across;
  some : 1 ≤ l.gap;
  earlier : shown_at (plain_zone l.fn.zone) ((l.fn.wall -ℤ seconds_around) +ℤ pos l.before) <ℤ l.fn.wall;
  later : l.fn.wall ≤ℤ shown_at (plain_zone l.fn.zone) ((l.fn.wall -ℤ seconds_around) +ℤ pos (l.before + l.gap));
}

abbrev pub decreases-loop-gap : goal.decreases-loop-gap
decreases-loop-gap l = l.gap
