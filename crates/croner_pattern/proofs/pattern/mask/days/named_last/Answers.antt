use Rattle.std.proofs.Common.{◌≡◌, ℕ, ◌+◌, ◌*◌, ◌-◌, ◌%◌, ◌^◌, ◌≤◌, Bool, true, false, not, ◌&&◌, ◌||◌, eqb, refl, ap, ◌∙◌, arith}
use Rattle.std.proofs.lemmas.Bool.Decides.{nat_tests}
use Rattle.croner_base.specs.Field.{has_all}
use Rattle.croner_pattern.specs.Days.{is_last_day, is_last_working}
use Rattle.croner_pattern.specs.Private.DayBits.{has_bit}
use Rattle.croner_pattern.proofs.days.DayBits.{has-one}
use Rattle.croner_pattern.proofs.days.DayTable.{last_day_is}
use Rattle.croner_pattern.proofs.questions.ScheduledAnswers.{last_alone}
use Rattle.croner_pattern.proofs.pattern.mask.days.named_last.Goals as goal
use Rattle.croner_pattern.proofs.pattern.mask.days.named_last.Goals.{then-has_nearest_day, else-has_nearest_day}

-- the last working day alone is named
working_named : (last also b working : Bool) → last ≡ true → also ≡ true → working ≡ (((last && not also) && b) || ((last && also) && working))
working_named last also b working l n = rw (l, n) refl

-- the bit of a day
bit_is : (last day place : ℕ) → last ≡ day → 1 ≤ day → day ≤ 31 → has_bit (1 * 2 ^ (last - 1) % 2 ^ 32) place ≡ eqb (place + 1) day
bit_is last day place e low high =
    let same : eqb place (day - 1) ≡ eqb (place + 1) day = grind (arith, nat_tests) in
    ap (λ n. has_bit (1 * 2 ^ (n - 1) % 2 ^ 32) place) e ∙ has-one (day - 1) place (omega arith) ∙ same

pub returns : goal.returns
returns g c place low =
    let len = c.args.length in
    let f = (g.P.PatternWords.meaning c.args.pattern.now).days in
    let l : has_all f.enabled 64 ≡ true = cc in
    elim c.if-has_nearest_day.branch [
      | then-has_nearest_day w ↦
          let also : has_all f.enabled 128 ≡ true = cc in
          let day = w.last_working-last.result in
          let high : day ≤ 31 = omega (arith, w.last_working-last.ensures.bound.1, c.requires.length.1) in
          bit_is c.if-has_nearest_day.last day place w.last-is w.last_working-last.ensures.bound.0 high
          ∙ w.last_working-last.ensures.value (place + 1) (omega arith) (omega arith)
          ∙ working_named (has_all f.enabled 64) (has_all f.enabled 128) (is_last_day len (place + 1)) (is_last_working len c.args.first (place + 1)) l also
      | else-has_nearest_day w ↦
          let also : has_all f.enabled 128 ≡ false = cc in
          bit_is c.if-has_nearest_day.last len place w.last-is (omega (arith, c.requires.length.0)) c.requires.length.1
          ∙ last_day_is len (place + 1) c.requires.length.0 c.requires.length.1 (omega arith) (omega arith)
          ∙ last_alone (has_all f.enabled 64) (has_all f.enabled 128) (is_last_day len (place + 1)) (is_last_working len c.args.first (place + 1)) l also
    ]
