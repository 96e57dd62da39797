use Rattle.std.proofs.Common.{◌≡◌, ℕ, ◌+◌, ◌<◌, ◌≤◌, Bool, true, false, ◌&&◌, nat_lt, bit_and, refl, ap, ◌∙◌, arith}
use Rattle.std.proofs.lemmas.Bool.Decides.{nat_tests}
use Rattle.croner_pattern.specs.Days.{weekday_of}
use Rattle.croner_pattern.specs.Private.DayBits.{has_bit}
use Rattle.croner_pattern.proofs.days.DayBits.{has-and}
use Rattle.croner_pattern.proofs.pattern.mask.days.targets_on.Goals as goal

below : (place len : ℕ) → len ≤ 31 → nat_lt place len ≡ true → place < 31
below place len long low = grind (arith, nat_tests)

joined : (m t s low target w : Bool) → m ≡ low → t ≡ target → (low ≡ true → s ≡ w) → ((m && t) && s) ≡ (low && (target && w))
joined m t s true target w e f g = rw (e, f, g refl) refl
joined m t s false target w e f g = rw e refl

pub returns : goal.returns
returns c place =
    let whole = c.whole_month.result in
    let targets = c.args.targets in
    let days = c.days_of_weekdays.result in
    has-and (bit_and whole targets) days place
    ∙ ap (λ b. b && has_bit days place) (has-and whole targets place)
    ∙ joined (has_bit whole place) (has_bit targets place) (has_bit days place) (nat_lt place c.args.length) (has_bit targets place) (has_bit c.args.weekdays (weekday_of c.args.first (place + 1)))
    (c.whole_month.ensures place) refl (λ low. c.days_of_weekdays.ensures place (below place c.args.length c.requires.length.1 low))
