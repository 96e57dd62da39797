use Rattle.std.proofs.Common.{◌≤◌, ◌<◌, ◌+◌, ◌-◌, ◌*◌, ◌/◌}
use Rattle.croner_base.specs.Private.words.Masks.{MasksTo}
use Rattle.croner_base.proofs.words.WordSearch.{HasNoneDown}
use Rattle.croner_base.proofs.component.marks.row.greatest_in_words.Given as goal

abbrev pub invariant-loop-i : goal.invariant-loop-i
invariant-loop-i l = record {
  within : l.i ≤ l.value / 64 + 1;
  masks : 0 < l.i → MasksTo l.mask l.value (l.i - 1);
  none : HasNoneDown l.row (l.i * 64) l.value;
}

abbrev pub decreases-loop-i : goal.decreases-loop-i
decreases-loop-i l = l.i
