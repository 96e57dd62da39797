use Rattle.std.proofs.Common.{◌≡◌, length, drop, ◌==◌}
use Rattle.std.specs.List.{slice_split, list_any}
use Rattle.croner_presets.specs.Parts.{is_of, has_part}
use Rattle.croner_presets.proofs.part.has_part.Given as goal

abbrev pub invariant-loop-part : goal.invariant-loop-part
invariant-loop-part l =
    list_any (is_of l.fn.form) (drop (length l.yielded) (slice_split (λ b. b == 44) l.fn.field)) ≡ has_part l.fn.form l.fn.field
