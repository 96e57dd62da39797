use Rattle.std.proofs.Common.{◌≡◌, ◌-◌}
use Rattle.croner_pattern.specs.Schedule.{is_named}
use Rattle.croner_summary.specs.Private.Exact.{ones_from}
use Rattle.croner_summary.proofs.exact.ones_from.Given as goal

abbrev pub invariant-loop-value : goal.invariant-loop-value
invariant-loop-value l = l.pieces.items ≡ ones_from (is_named l.bit l.field) l.from (l.value - l.from)
