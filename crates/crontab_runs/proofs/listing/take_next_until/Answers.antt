use Rattle.std.proofs.Common.{◌≡◌, ◌∙◌, ℤ, true, false, refl, sym, subst, w64, FitsSigned, to_z, of_z, rules}
use Rattle.std.proofs.lemmas.Bool.{false≢true}
use Rattle.std.proofs.lemmas.Int.{to_z-of_z}
use Rattle.croner.specs.laws.Until.{ComesBy}
use Rattle.crontab_runs.proofs.listing.take_next_until.Goals as goal

pub returns-then-not-comes_by-clause-takes : goal.returns-then-not-comes_by-clause-takes
returns-then-not-comes_by-clause-takes c =
    let start = c.in-Some.start in
    let fits : FitsSigned w64 start.second = search rules in
    let at : start.second ≡ to_z w64 (of_z w64 start.second) = sym (to_z-of_z w64 start.second fits) in
    let isnt : c.comes_by.result ≡ false = search rules in
    (c.in-Some.ensures.steps, (λ by. false≢true (sym isnt ∙ c.comes_by.ensures.1 (subst (λ (i : ℤ). ComesBy c.args.left.now.direction c.args.until i) at by))), refl)

pub returns-else-not-comes_by-clause-takes : goal.returns-else-not-comes_by-clause-takes
returns-else-not-comes_by-clause-takes c =
    let start = c.in-Some.start in
    let fits : FitsSigned w64 start.second = search rules in
    let at : start.second ≡ to_z w64 (of_z w64 start.second) = sym (to_z-of_z w64 start.second fits) in
    let is : c.comes_by.result ≡ true = search rules in
    (start, c.in-Some.ensures.steps, subst (λ (i : ℤ). ComesBy c.args.left.now.direction c.args.until i) (sym at) (c.comes_by.ensures.0 is), c.push_reserved.ensures.items)
