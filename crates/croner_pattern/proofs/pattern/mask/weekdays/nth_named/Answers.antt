use Rattle.std.proofs.Common.{◌≡◌, ℕ, zero, suc, ◌+◌, ◌-◌, ◌/◌, ◌<◌, ◌^◌, Bool, false, ◌&&◌, ◌||◌, eqb, bit_or, refl, ap, sym, ◌∙◌, arith}
use Rattle.std.proofs.lemmas.Bool.{or_parts}
use Rattle.croner_base.specs.Field.{has_any, is_marked}
use Rattle.croner_base.proofs.fields.MarkSets.{has_any-several}
use Rattle.croner_pattern.specs.Days.{weekday_of}
use Rattle.croner_pattern.proofs.days.DayBits.{has-or, has-none}
use Rattle.croner_pattern.proofs.days.DayTable.{occurrence_is}
use Rattle.croner_pattern.proofs.days.JoinedTests.{or_false}
use Rattle.croner_pattern.proofs.pattern.mask.weekdays.nth_named.Goals as goal

-- no place is marked
one_of : (sum a b : ℕ) → bit_or a b ≡ 62 → has_any sum 62 ≡ false → has_any sum a ≡ false
one_of sum a b e h = (or_parts (has_any sum a) (has_any sum b) (sym (has_any-several sum a b) ∙ ap (has_any sum) e ∙ h)).0

none_of : (sum k : ℕ) → k < 5 → has_any sum 62 ≡ false → has_any sum (2 ^ (k + 1)) ≡ false
none_of sum zero k h = one_of sum 2 60 refl h
none_of sum (suc zero) k h = one_of sum 4 58 refl h
none_of sum (suc (suc zero)) k h = one_of sum 8 54 refl h
none_of sum (suc (suc (suc zero))) k h = one_of sum 16 46 refl h
none_of sum (suc (suc (suc (suc zero)))) k h = one_of sum 32 30 refl h
none_of sum (suc (suc (suc (suc (suc n))))) k h = absurd (omega arith)

-- one of five places
one_of_five : (m : ℕ → Bool) (k : ℕ) → k < 5
    → (((((eqb k 0 && m 1) || (eqb k 1 && m 2)) || (eqb k 2 && m 3)) || (eqb k 3 && m 4)) || (eqb k 4 && m 5)) ≡ m (k + 1)
one_of_five m zero h = or_false _ ∙ or_false _ ∙ or_false _ ∙ or_false _
one_of_five m (suc zero) h = or_false _ ∙ or_false _ ∙ or_false _
one_of_five m (suc (suc zero)) h = or_false _ ∙ or_false _
one_of_five m (suc (suc (suc zero))) h = or_false _
one_of_five m (suc (suc (suc (suc zero)))) h = refl
one_of_five m (suc (suc (suc (suc (suc n))))) h = absurd (omega arith)

pub returns-then-not-has_nth_weekdays : goal.returns-then-not-has_nth_weekdays
returns-then-not-has_nth_weekdays g c place low =
    let f = (g.P.PatternWords.meaning c.args.pattern.now).days_of_week in
    let w = weekday_of c.args.first (place + 1) in
    let before = ((place + 1) - 1) / 7 in
    let none : has_any _ 62 ≡ false = c.has_nth_weekdays.ensures c.if-not-has_nth_weekdays.true w (omega arith) in
    has-none place
    ∙ sym (none_of _ before (omega arith) none)
    ∙ ap (λ n. is_marked (2 ^ n) f w) (occurrence_is c.args.first (place + 1) c.requires (omega arith) (omega arith))

pub returns : goal.returns
returns g c place low =
    let f = (g.P.PatternWords.meaning c.args.pattern.now).days_of_week in
    let w = weekday_of c.args.first (place + 1) in
    let before = ((place + 1) - 1) / 7 in
    let two = has-or c.nth_marked.result c.nth_marked-2.result place ∙ (λ i. c.nth_marked.ensures place low i || c.nth_marked-2.ensures place low i) in
    let three = has-or _ c.nth_marked-3.result place ∙ (λ i. two i || c.nth_marked-3.ensures place low i) in
    let four = has-or _ c.nth_marked-4.result place ∙ (λ i. three i || c.nth_marked-4.ensures place low i) in
    has-or _ c.nth_marked-5.result place ∙ (λ i. four i || c.nth_marked-5.ensures place low i)
    ∙ one_of_five (λ n. is_marked (2 ^ n) f w) before (omega arith)
    ∙ ap (λ n. is_marked (2 ^ n) f w) (occurrence_is c.args.first (place + 1) c.requires (omega arith) (omega arith))
