use Rattle.std.proofs.Common.{length, drop, ◌==◌}
use Rattle.std.specs.List.{slice_split}
use Rattle.crontab.specs.List.{refused_in}
use Rattle.crontab.proofs.RefusedParts.{Goes}
use Rattle.crontab.proofs.list.refused_in.Given as goal

abbrev pub invariant-loop-piece : goal.invariant-loop-piece
invariant-loop-piece l =
    Goes (refused_in l.fn.bounds l.fn.field) (length l.fn.field) l.start l.fn.bounds (drop (length l.yielded) (slice_split (λ b. b == 44) l.fn.field))
