use Rattle.std.proofs.Common.{◌≡◌, ◌∙◌, ℤ, true, false, refl, sym, subst, w64, FitsSigned, to_z, of_z, rules}
use Rattle.std.proofs.lemmas.Bool.{false≢true}
use Rattle.std.proofs.lemmas.Int.{to_z-of_z}
use Rattle.croner_base.specs.declared.time.Direction.{Direction}
use Rattle.croner.specs.laws.Until.{ComesBy}
use Rattle.croner.proofs.laws.crontable.take_next_until.Goals as goal

pub returns-then-not-comes_by-clause-takes : goal.returns-then-not-comes_by-clause-takes
returns-then-not-comes_by-clause-takes c =
    let item = c.in-Some.item in
    let fits : FitsSigned w64 c.second-second.result = search rules in
    let at : item.0.second ≡ to_z w64 (of_z w64 c.second-second.result) = sym (to_z-of_z w64 c.second-second.result fits ∙ c.second-second.ensures.value) in
    let isnt : c.comes_by.result ≡ false = search rules in (
      item.0,
      item.1.items,
      c.in-Some.ensures.steps,
      at,
      λ by. false≢true (sym isnt ∙ c.comes_by.ensures.1
          (subst (λ (d : Direction). ComesBy d c.args.until (to_z w64 (of_z w64 c.second-second.result))) (sym c.direction-direction.ensures)
          (subst (λ (i : ℤ). ComesBy c.args.iterator.now.direction c.args.until i) at by))),
      refl,
    )

pub returns-else-not-comes_by-clause-takes : goal.returns-else-not-comes_by-clause-takes
returns-else-not-comes_by-clause-takes c =
    let item = c.in-Some.item in
    let fits : FitsSigned w64 c.second-second.result = search rules in
    let at : item.0.second ≡ to_z w64 (of_z w64 c.second-second.result) = sym (to_z-of_z w64 c.second-second.result fits ∙ c.second-second.ensures.value) in
    let is : c.comes_by.result ≡ true = search rules in (
      item,
      c.in-Some.ensures.steps,
      subst (λ (i : ℤ). ComesBy c.args.iterator.now.direction c.args.until i) (sym at)
          (subst (λ (d : Direction). ComesBy d c.args.until (to_z w64 (of_z w64 c.second-second.result))) c.direction-direction.ensures (c.comes_by.ensures.0 is)),
      c.push_reserved.ensures.items,
    )
