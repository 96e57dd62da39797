use Rattle.std.proofs.Common.{length, drop, ◌==◌}
use Rattle.std.specs.List.{slice_split}
use Rattle.crontab.specs.List.{parts_of, parts_of_pieces}
use Rattle.crontab.proofs.Parts.{Follows}
use Rattle.crontab.proofs.list.parts_of.Given as goal

abbrev pub invariant-loop-piece : goal.invariant-loop-piece
invariant-loop-piece l =
    Follows (parts_of l.fn.bounds l.fn.field) l.parts.items (parts_of_pieces l.fn.bounds (drop (length l.yielded) (slice_split (λ b. b == 44) l.fn.field)))
