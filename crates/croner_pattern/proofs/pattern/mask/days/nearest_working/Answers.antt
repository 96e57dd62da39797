use Rattle.std.proofs.Common.{◌≡◌, ℕ, ◌+◌, ◌*◌, ◌-◌, ◌/◌, ◌%◌, ◌^◌, ◌<◌, ◌&&◌, ◌||◌, eqb, ltb, bit_and, bit_or, ap, sym, ◌∙◌, arith}
use Rattle.croner_pattern.specs.Private.DayBits.{has_bit}
use Rattle.croner_pattern.proofs.days.DayBits.{has-or, has-and, has-none, has-shr, has-one, has-first, has-next}
use Rattle.croner_pattern.proofs.days.NearestDays.{arrives-is, no_target}
use Rattle.croner_pattern.proofs.pattern.mask.days.nearest_working.Goals as goal

pub returns-then-targets-eq0 : goal.returns-then-targets-eq0
returns-then-targets-eq0 c place low =
    has-none place
    ∙ sym (no_target (has_bit c.args.targets) c.args.length c.args.first (place + 1) (λ x. ap (λ n. has_bit n x) c.if-targets-eq0.true ∙ has-none x))

-- the five words, joined
joined : (working saturdays sundays len place : ℕ) → len < 33 → 0 < len → place < 32
    → has_bit (bit_or (bit_or (bit_or (bit_or working (saturdays / 2 ^ 1)) (bit_and saturdays 1 * 2 ^ 2 % 2 ^ 32)) (sundays * 2 ^ 1 % 2 ^ 32)) (bit_and sundays (1 * 2 ^ (len - 1) % 2 ^ 32) / 2 ^ 2)) place
    ≡ ((((has_bit working place || has_bit saturdays (1 + place)) || (eqb place 2 && has_bit saturdays 0)) || (ltb 0 place && has_bit sundays (place - 1))) || (has_bit sundays (2 + place) && eqb (2 + place) (len - 1)))
joined working saturdays sundays len place long some high =
    let two = bit_or working (saturdays / 2 ^ 1) in
    let three = bit_or two (bit_and saturdays 1 * 2 ^ 2 % 2 ^ 32) in
    let four = bit_or three (sundays * 2 ^ 1 % 2 ^ 32) in
    let last = bit_and sundays (1 * 2 ^ (len - 1) % 2 ^ 32) in
    let e2 = has-or working (saturdays / 2 ^ 1) place ∙ ap (λ b. has_bit working place || b) (has-shr saturdays 1 place) in
    let e3 = has-or two (bit_and saturdays 1 * 2 ^ 2 % 2 ^ 32) place ∙ (λ i. e2 i || has-first saturdays place high i) in
    let e4 = has-or three (sundays * 2 ^ 1 % 2 ^ 32) place ∙ (λ i. e3 i || has-next sundays place high i) in
    let e5 = has-shr last 2 place ∙ has-and sundays (1 * 2 ^ (len - 1) % 2 ^ 32) (2 + place) ∙ ap (λ b. has_bit sundays (2 + place) && b) (has-one (len - 1) (2 + place) (omega arith)) in
    has-or four (last / 2 ^ 2) place ∙ (λ i. e4 i || e5 i)

pub returns : goal.returns
returns c place low =
    let t = has_bit c.args.targets in
    let len = c.args.length in
    let first = c.args.first in
    joined c.targets_on-working.result c.targets_on-saturdays.result c.targets_on-sundays.result len place (omega (arith, c.requires.length)) (omega (arith, c.requires.length)) (omega (arith, c.requires.length))
    ∙ (λ i. (((c.targets_on-working.ensures place i || c.targets_on-saturdays.ensures (1 + place) i) || (eqb place 2 && c.targets_on-saturdays.ensures 0 i)) || (ltb 0 place && c.targets_on-sundays.ensures (place - 1) i)) || (c.targets_on-sundays.ensures (2 + place) i && eqb (2 + place) (len - 1)))
    ∙ arrives-is t len first place c.requires.length.0 c.requires.length.1 c.requires.first low
