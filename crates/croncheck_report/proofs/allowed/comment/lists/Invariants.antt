use Rattle.std.proofs.Common.{◌≡◌, length, drop}
use Rattle.std.specs.List.{list_any}
use Rattle.std.specs.Str.{bytes_eq}
use Rattle.croncheck_report.specs.Allowed.{items_of}
use Rattle.croncheck_report.proofs.allowed.comment.lists.Given as goal

abbrev pub invariant-loop-item : goal.invariant-loop-item
invariant-loop-item l =
    list_any (λ item. bytes_eq l.fn.name item) (drop (length l.yielded) (items_of l.fn.list)) ≡ list_any (λ item. bytes_eq l.fn.name item) (items_of l.fn.list)
