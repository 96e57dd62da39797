use Rattle.std.proofs.Common.{◌≡◌, ◌+◌, take}
use Rattle.croner_summary.specs.Lengths.{length_of}
use Rattle.croner_summary.proofs.spacing.have_at_most.Given as goal

abbrev pub invariant-loop-piece : goal.invariant-loop-piece
invariant-loop-piece l = length_of (take l.piece-index l.pieces) + l.left ≡ l.words
