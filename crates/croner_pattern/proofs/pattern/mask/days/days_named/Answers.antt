use Rattle.std.proofs.Common.{◌≡◌, ℕ, zero, suc, ◌+◌, ◌-◌, ◌≤◌, ◌<◌, Bool, true, false, ◌&&◌, ◌||◌, bit_or, refl, ap, ◌∙◌, arith}
use Rattle.std.specs.List.{list_any, range_with_len}
use Rattle.croner_base.specs.Field.{Field, is_marked}
use Rattle.croner_pattern.specs.Days.{days_of, is_last_day, is_last_working, is_nearest}
use Rattle.croner_pattern.specs.Private.DayBits.{has_bit}
use Rattle.croner_pattern.specs.Schedule.{is_named, is_plain, is_near_target, names_last_day, names_last_working_day}
use Rattle.croner_pattern.specs.Shapes.{day_shape}
use Rattle.croner_pattern.proofs.days.DayBits.{has-or}
use Rattle.croner_pattern.proofs.questions.FieldShapes.{HasLikeShape, field_shapes, asks_day, marked_named}
use Rattle.croner_pattern.proofs.pattern.mask.days.days_named.Goals as goal

any-same : (p q : ℕ → Bool) (a n : ℕ) → ((x : ℕ) → a ≤ x → x < a + n → p x ≡ q x) → list_any p (range_with_len a n) ≡ list_any q (range_with_len a n)
any-same p q a zero h = refl
any-same p q a (suc n) h =
    let more = any-same p q (a + 1) n (λ x low high. h x (omega arith) (omega arith)) in
    (λ i. h a (omega arith) (omega arith) i || more i)

or_assoc : (a b c d : Bool) → ((a || (b || c)) || d) ≡ (a || (b || (c || d)))
or_assoc true b c d = refl
or_assoc false true c d = refl
or_assoc false false c d = refl

-- the targets are the days with the mark
near_is : (f : Field) (targets len first day : ℕ) → HasLikeShape f.shape day_shape → len ≤ 31
    → ((place : ℕ) → place < 31 → has_bit targets place ≡ is_marked 128 f (place + 1))
    → list_any (λ target. has_bit targets (target - 1) && is_nearest len first target day) (days_of len) ≡ is_near_target f len first day
near_is f targets len first day s long h =
    any-same (λ target. has_bit targets (target - 1) && is_nearest len first target day) (λ target. is_named 128 f target && is_nearest len first target day) 1 len
    (λ x low high.
    let back : (x - 1) + 1 ≡ x = omega arith in
    ap (λ b. b && is_nearest len first x day)
    (h (x - 1) (omega arith) ∙ ap (is_marked 128 f) back ∙ marked_named 128 f x (asks_day f.shape x 128 s refl low (omega arith))))

pub returns : goal.returns
returns g c place low =
    let m = g.P.PatternWords.meaning c.args.pattern.now in
    let f = m.days in
    let len = c.args.length in
    let first = c.args.first in
    let day = place + 1 in
    let s = (field_shapes m c.requires.shapes).days in
    let long = c.requires.length.1 in
    let plain : has_bit c.plain_days.result place ≡ is_plain f day =
    c.plain_days.ensures place (omega arith) ∙ marked_named 1 f day (asks_day f.shape day 1 s refl (omega arith) (omega arith)) in
    let near : has_bit c.nearest_working-nearest.result place ≡ is_near_target f len first day =
    c.nearest_working-nearest.ensures place low ∙ near_is f c.nearest_days.result len first day s long c.nearest_days.ensures in
    let two = has-or c.plain_days.result c.named_last.result place ∙ (λ i. plain i || c.named_last.ensures place low i) in
    has-or (bit_or c.plain_days.result c.named_last.result) c.nearest_working-nearest.result place ∙ (λ i. two i || near i)
    ∙ or_assoc (is_plain f day) (names_last_day f && is_last_day len day) (names_last_working_day f && is_last_working len first day) (is_near_target f len first day)
