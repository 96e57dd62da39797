use Rattle.std.proofs.Common.{◌-◌, length}
use Rattle.croner_summary.proofs.pieces.push_streaks.Given as goal

abbrev pub decreases-loop-start : goal.decreases-loop-start
decreases-loop-start l = length l.values - l.start
