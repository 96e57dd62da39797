use Rattle.std.proofs.Common.{◌≡◌, ◌-◌, ◌≤◌, true}
use Rattle.croner_pattern.specs.Schedule.{is_plain}
use Rattle.croner_summary.specs.Says.{is_stepwise}
use Rattle.croner_summary.specs.Private.Spacing.{LieEvenly}
use Rattle.croner_summary.proofs.spacing.lie_evenly.Given as goal

abbrev pub invariant-loop-reached : goal.invariant-loop-reached
invariant-loop-reached l = record {
  low : l.first ≤ l.reached;
  high : l.reached ≤ l.last;
  plain : is_plain l.field l.reached ≡ true;
  on_step : is_stepwise l.step (l.reached - l.first) ≡ true;
  even : LieEvenly l.field l.first l.reached l.step;
}

abbrev pub decreases-loop-reached : goal.decreases-loop-reached
decreases-loop-reached l = l.last - l.reached
