use Rattle.std.proofs.Common.{◌≡◌, eqb, false, sym, ◌∙◌, arith}
use Rattle.std.proofs.lemmas.Bool.Decides.{nat_tests}
use Rattle.croner_pattern.proofs.descriptions.PlainValues.{first_is, first_of_none, first_of_zero}
use Rattle.croner_pattern.proofs.describe.fields.first_value.Goals as goal

pub returns-then-max-eq0 : goal.returns-then-max-eq0
returns-then-max-eq0 c = sym (first_of_zero c.args.field.now c.max.ensures.whole (sym c.max.ensures.value ∙ c.if-max-eq0.true))

pub returns-in-Some : goal.returns-in-Some
returns-in-Some c =
    let some : eqb c.args.field.now.shape.max 0 ≡ false = let h = c.max.ensures.value in let g = c.if-max-eq0.false in grind (arith, nat_tests) in
    sym (first_is c.args.field.now c.in-Some.value some c.in-Some.ensures)

pub returns-in-None : goal.returns-in-None
returns-in-None c =
    let some : eqb c.args.field.now.shape.max 0 ≡ false = let h = c.max.ensures.value in let g = c.if-max-eq0.false in grind (arith, nat_tests) in
    sym (first_of_none c.args.field.now some c.in-None.ensures)
