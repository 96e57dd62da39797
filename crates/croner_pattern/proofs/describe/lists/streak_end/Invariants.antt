use Rattle.std.proofs.Common.{◌≡◌, ◌+◌, ◌-◌, ◌<◌, ◌≤◌, length, drop, get_or}
use Rattle.croner_pattern.specs.Lists.{streaks_of}
use Rattle.croner_pattern.proofs.descriptions.StreaksWritten.{begun_at}
use Rattle.croner_pattern.proofs.describe.lists.streak_end.Given as goal

abbrev pub invariant-loop-end : goal.invariant-loop-end
invariant-loop-end l = record {
  ahead : l.start ≤ l.end;
  within : l.end < length l.values;
  values : get_or l.values l.end 0 + l.start ≡ get_or l.values l.start 0 + l.end;
  streak : streaks_of (drop l.start l.values) ≡ begun_at (get_or l.values l.start 0) (streaks_of (drop l.end l.values));
}

abbrev pub decreases-loop-end : goal.decreases-loop-end
decreases-loop-end l = length l.values - l.end
