-- The order of fields: by their marks from value 0 on, and then by the rest.
use Rattle.std.specs.declared.cmp.Ordering.{Ordering}
use Rattle.std.specs.Ordering.{nat_cmp, bool_cmp, on, then_cmp}
use Rattle.std.specs.Cmp.{IsTotalOrder, on_total, then_total, nat_cmp_total, bool_cmp_total}
use Rattle.std.specs.Cmp.Lexicographic.{slice_cmp, lists_total}
use Rattle.croner_base.specs.Field.{Field}

-- by the marks from value 0 on, minimum, maximum, step, star, supported modifiers, enabled features, offset, sloppiness
abbrev pub field_cmp : Field → Field → Ordering
field_cmp =
    then_cmp (then_cmp (then_cmp (then_cmp (then_cmp (then_cmp (then_cmp (then_cmp (on (λ f. f.marks) (slice_cmp nat_cmp))
    (on (λ f. f.shape.min) nat_cmp))
    (on (λ f. f.shape.max) nat_cmp))
    (on (λ f. f.step) nat_cmp))
    (on (λ f. f.wildcard) bool_cmp))
    (on (λ f. f.shape.supported) nat_cmp))
    (on (λ f. f.enabled) nat_cmp))
    (on (λ f. f.shape.offset) nat_cmp))
    (on (λ f. f.shape.sloppy) bool_cmp)

-- it is a total order
pub field_cmp_total : IsTotalOrder field_cmp
field_cmp_total =
    then_total (then_total (then_total (then_total (then_total (then_total (then_total (then_total (on_total (λ (f : Field). f.marks) (lists_total nat_cmp_total))
    (on_total (λ (f : Field). f.shape.min) nat_cmp_total))
    (on_total (λ (f : Field). f.shape.max) nat_cmp_total))
    (on_total (λ (f : Field). f.step) nat_cmp_total))
    (on_total (λ (f : Field). f.wildcard) bool_cmp_total))
    (on_total (λ (f : Field). f.shape.supported) nat_cmp_total))
    (on_total (λ (f : Field). f.enabled) nat_cmp_total))
    (on_total (λ (f : Field). f.shape.offset) nat_cmp_total))
    (on_total (λ (f : Field). f.shape.sloppy) bool_cmp_total)
