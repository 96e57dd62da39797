use Rattle.std.proofs.Common.{◌+◌, ◌-◌, ◌≤◌}
use Rattle.croner_summary.specs.Private.Exact.{AgreeWithin, NameOnceWithin}
use Rattle.croner_summary.proofs.plain.name_plain_exactly.Given as goal

abbrev pub invariant-loop-from : goal.invariant-loop-from
invariant-loop-from l = record {
  low : l.least ≤ l.from;
  agree : AgreeWithin l.least l.greatest l.pieces l.field l.from;
  once : NameOnceWithin l.least l.greatest l.pieces l.from;
}

abbrev pub decreases-loop-from : goal.decreases-loop-from
decreases-loop-from l = (l.greatest + 1) - l.from
