use Rattle.std.proofs.Common.{◌≡◌, length, drop, ◌==◌}
use Rattle.std.specs.List.{slice_split, list_any}
use Rattle.croncheck_warnings.proofs.warnings.fields.has_empty_item.Given as goal

abbrev pub invariant-loop-item : goal.invariant-loop-item
invariant-loop-item l =
    list_any (λ item. length item == 0) (drop (length l.yielded) (slice_split (λ b. b == 44) l.fn.field))
    ≡ list_any (λ item. length item == 0) (slice_split (λ b. b == 44) l.fn.field)
