use Rattle.std.proofs.Common.{◌≡◌, ℕ, ◌+◌, ◌<◌, Bool, true, false, ◌&&◌, nat_lt, bit_and, if◌then◌else◌, refl, ap, ◌∙◌, arith}
use Rattle.std.proofs.lemmas.Bool.Decides.{nat_tests}
use Rattle.croner_pattern.specs.Private.DayBits.{has_bit}
use Rattle.croner_pattern.specs.Schedule.{is_day_matching}
use Rattle.croner_pattern.proofs.days.DayBits.{has-and, bit-of}
use Rattle.croner_pattern.proofs.days.JoinedTests.{and_true, and_false}
use Rattle.croner_pattern.proofs.pattern.mask.days_of_month.Goals as goal

cut : (fits whole low is : Bool) → whole ≡ low → (low ≡ true → fits ≡ is) → (fits && whole) ≡ (low && is)
cut fits whole true is e f = rw (e, f refl) (and_true is)
cut fits whole false is e f = rw e (and_false fits)

below : (place len : ℕ) → nat_lt place len ≡ true → place < len
below place len h = grind (arith, nat_tests)

pub returns : goal.returns
returns g c place =
    let fits = c.fitting_days.result in
    let whole = c.whole_month.result in
    bit-of (bit_and fits whole) place
    ∙ ap (λ b. if b then 1 else 0)
    (has-and fits whole place
    ∙ cut (has_bit fits place) (has_bit whole place) (nat_lt place c.args.length) (is_day_matching (g.P.PatternWords.meaning c.args.pattern.now) c.args.length c.args.first (place + 1))
    (c.whole_month.ensures place) (λ low. c.fitting_days.ensures place (below place c.args.length low)))
