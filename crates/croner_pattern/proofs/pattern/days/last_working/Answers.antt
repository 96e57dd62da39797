use Rattle.std.proofs.Common.{◌≡◌, ℕ, ◌-◌, eqb, arith, ap, sym, ◌∙◌}
use Rattle.std.proofs.lemmas.Bool.Decides.{nat_tests}
use Rattle.croner_pattern.specs.Days.{weekday_of}
use Rattle.croner_pattern.proofs.days.DayTable.{working_is, last_working_day}
use Rattle.croner_pattern.proofs.pattern.days.last_working.Goals as goal

on_saturday : (len w : ℕ) → w ≡ 6 → len - 1 ≡ last_working_day len w
on_saturday len w e = grind (arith, nat_tests)

on_sunday : (len w : ℕ) → w ≡ 0 → len - 2 ≡ last_working_day len w
on_sunday len w e = grind (arith, nat_tests)

otherwise : (len w : ℕ) → (w ≡ 6 → ⊥) → (w ≡ 0 → ⊥) → len ≡ last_working_day len w
otherwise len w six zero = grind (arith, nat_tests)

pub returns-in-6-clause-value : goal.returns-in-6-clause-value
returns-in-6-clause-value c day low high =
    ap (eqb day) (on_saturday c.args.length (weekday_of c.args.first c.args.length) (sym c.weekday_of.ensures.value ∙ c.in-6.is))
    ∙ working_is c.args.length c.args.first day c.requires.length.0 c.requires.length.1 c.requires.first low high

pub returns-in-0-clause-value : goal.returns-in-0-clause-value
returns-in-0-clause-value c day low high =
    ap (eqb day) (on_sunday c.args.length (weekday_of c.args.first c.args.length) (sym c.weekday_of.ensures.value ∙ c.in-0.is))
    ∙ working_is c.args.length c.args.first day c.requires.length.0 c.requires.length.1 c.requires.first low high

pub returns-in_default-clause-value : goal.returns-in_default-clause-value
returns-in_default-clause-value c day low high =
    ap (eqb day) (otherwise c.args.length (weekday_of c.args.first c.args.length) (λ e. absurd (omega (arith, c.in_default, c.weekday_of.ensures.value))) (λ e. absurd (omega (arith, c.in_default, c.weekday_of.ensures.value))))
    ∙ working_is c.args.length c.args.first day c.requires.length.0 c.requires.length.1 c.requires.first low high
