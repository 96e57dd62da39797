use Rattle.std.proofs.Common.{◌≡◌, ◌*◌, ◌^◌, ◌%◌, Bool, true, false, ◌&&◌, bit_and, refl, ap, ◌∙◌}
use Rattle.croner_pattern.specs.Private.DayBits.{has_bit}
use Rattle.croner_pattern.proofs.days.DayBits.{has-and, has-nth_week}
use Rattle.croner_pattern.proofs.pattern.mask.weekdays.nth_marked.Goals as goal

swapped : (a b : Bool) → (a && b) ≡ (b && a)
swapped true true = refl
swapped true false = refl
swapped false true = refl
swapped false false = refl

pub returns : goal.returns
returns g c place low =
    ap (λ n. has_bit (bit_and c.days_marked.result (127 * 2 ^ (7 * n) % 2 ^ 32)) place) c.from.ensures
    ∙ has-and c.days_marked.result (127 * 2 ^ (7 * c.args.before) % 2 ^ 32) place
    ∙ swapped (has_bit c.days_marked.result place) (has_bit (127 * 2 ^ (7 * c.args.before) % 2 ^ 32) place)
    ∙ (λ i. has-nth_week c.args.before place c.requires.before low i && c.days_marked.ensures place low i)
