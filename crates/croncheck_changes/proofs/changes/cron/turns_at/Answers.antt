use Rattle.std.proofs.Common.{◌∙◌, ap, rules, arith, refl, Bool, pos, ◌-ℤ◌, w64, FitsSigned}
use Rattle.std.specs.Prelude.{not}
use Rattle.std.proofs.lemmas.Int.{ints, to_z-of_z}
use Rattle.jiff_core.proofs.SignedLemmas.{nat_eq-bits}
use Rattle.croncheck_changes.proofs.changes.cron.turns_at.Goals as goal

pub returns : goal.returns
returns c =
    let after : FitsSigned w64 c.args.change.after = omega (arith, ints, c.requires.after_from, c.requires.after_to) in
    let from : FitsSigned w64 c.args.change.before = omega (arith, ints, c.requires.before_from, c.requires.before_to) in
    let before : FitsSigned w64 (c.args.change.before -ℤ pos 1) = omega (arith, ints, c.requires.before_from, c.requires.before_to) in
    let there : FitsSigned w64 c.minute_of.result = search rules in
    let shown : FitsSigned w64 c.minute_of-2.result = search rules in
    let there_is = simp to_z-of_z at c.minute_of.ensures in
    let shown_is = simp to_z-of_z at c.minute_of-2.ensures in
    ap (λ (b : Bool). not b) (nat_eq-bits w64 c.minute_of.result c.minute_of-2.result there shown) ∙ rw (there_is, shown_is) refl
