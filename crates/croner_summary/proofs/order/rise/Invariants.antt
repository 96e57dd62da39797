use Rattle.std.proofs.Common.{◌≡◌, drop}
use Rattle.croner_summary.specs.Order.{rise_from}
use Rattle.croner_summary.proofs.order.rise.Given as goal

abbrev pub invariant-loop-piece : goal.invariant-loop-piece
invariant-loop-piece l = rise_from l.least l.greatest l.from (drop l.piece-index l.pieces) ≡ rise_from l.least l.greatest l.least l.pieces
