use Rattle.croner_summary.specs.Private.Exact.{AgreeBelow, NameOnceBelow}
use Rattle.croner_summary.proofs.exact.name_exactly.Given as goal

abbrev pub invariant-loop-value : goal.invariant-loop-value
invariant-loop-value l = record {
  agree : AgreeBelow l.least l.greatest l.pieces l.bit l.field l.value;
  once : NameOnceBelow l.least l.greatest l.pieces l.value;
}
