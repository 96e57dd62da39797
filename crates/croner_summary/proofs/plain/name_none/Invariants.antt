use Rattle.std.proofs.Common.{take}
use Rattle.croner_summary.specs.Private.Exact.{NameNone}
use Rattle.croner_summary.proofs.plain.name_none.Given as goal

abbrev pub invariant-loop-piece : goal.invariant-loop-piece
invariant-loop-piece l = NameNone l.least l.greatest (take l.piece-index l.pieces) l.from l.end
