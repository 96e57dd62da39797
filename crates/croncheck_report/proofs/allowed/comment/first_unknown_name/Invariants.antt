use Rattle.std.proofs.Common.{◌≡◌, length, drop}
use Rattle.croncheck_report.specs.Allowed.{is_unknown, first_so, items_of}
use Rattle.croncheck_report.proofs.allowed.comment.first_unknown_name.Given as goal

abbrev pub invariant-loop-item : goal.invariant-loop-item
invariant-loop-item l = first_so is_unknown (drop (length l.yielded) (items_of l.fn.list)) ≡ first_so is_unknown (items_of l.fn.list)
